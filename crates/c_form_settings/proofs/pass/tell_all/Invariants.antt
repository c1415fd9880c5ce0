use Rattle.std.proofs.Common.{◌≡◌, ℕ, drop}
use Rattle.std.specs.Prelude.{nat_eq}
use Rattle.indexmap.specs.IndexMap.{get}
use Rattle.c_form_settings.specs.Passes.{told}
use Rattle.c_form_settings.proofs.pass.tell_all.Given as goal

-- whatever is told to those that are left is told to all
abbrev pub invariant-loop-number : goal.invariant-loop-number
invariant-loop-number l =
    (i : ℕ) → told l.event l.depth i (drop l.number-index l.numbers) (get nat_eq l.locals i)
    ≡ told l.event l.depth i l.numbers (get nat_eq l.fn.locals i)
