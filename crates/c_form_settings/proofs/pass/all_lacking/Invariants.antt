use Rattle.std.proofs.Common.{ℕ, drop}
use Rattle.std.specs.Prelude.{Option}
use Rattle.std.specs.List.{flat_map}
use Rattle.c_form.specs.Blames.{Blames}
use Rattle.c_form_settings.specs.Passes.{lacking_in}
use Rattle.c_form_settings.proofs.pass.all_lacking.Given as goal

-- whatever blames what is left blames it all
abbrev pub invariant-loop-number : goal.invariant-loop-number
invariant-loop-number l =
    (new : Option ℕ) → Blames l.least new (flat_map (lacking_in l.pass l.at) (drop l.number-index l.numbers))
    → Blames l.fn.least new (flat_map (lacking_in l.pass l.at) l.numbers)
