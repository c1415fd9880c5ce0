use Rattle.std.proofs.Common.{ℕ, drop}
use Rattle.std.specs.Prelude.{Option}
use Rattle.c_raw.specs.Blocks.{at_view}
use Rattle.c_form.specs.Blames.{Blames}
use Rattle.c_form.proofs.Blaming.{parts_of}
use Rattle.c_form_settings.specs.Passes.{early_in}
use Rattle.c_form_settings.proofs.simple.read_all.Given as goal

-- whatever blames what is left blames it all
abbrev pub invariant-loop-atom : goal.invariant-loop-atom
invariant-loop-atom l =
    (new : Option ℕ) → Blames l.least new (parts_of at_view (early_in l.pass) (drop l.atom-index l.atoms))
    → Blames l.fn.least new (parts_of at_view (early_in l.pass) l.atoms)
