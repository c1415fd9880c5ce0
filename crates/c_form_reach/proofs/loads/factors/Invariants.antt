use Rattle.std.proofs.Common.{ℕ, drop}
use Rattle.std.specs.Prelude.{Option}
use Rattle.c_tree.specs.Raw.{RawModule}
use Rattle.c_tree.specs.rules.Reach.{factor_reached}
use Rattle.c_raw.specs.Blocks.{at_view}
use Rattle.c_form.specs.Blames.{Blames}
use Rattle.c_form.specs.FieldTypes.{HasTypes}
use Rattle.c_form.proofs.Blaming.{parts_of}
use Rattle.c_form_reach.proofs.loads.factors.Given as goal

-- whatever blames what is left blames it all
abbrev pub invariant-loop-found : goal.invariant-loop-found
invariant-loop-found l =
    (m : RawModule) → HasTypes l.types m → (new : Option ℕ) → Blames l.least new (parts_of at_view (factor_reached m l.function) (drop l.found-index l.list))
    → Blames l.fn.least new (parts_of at_view (factor_reached m l.function) l.list)
