use Rattle.std.proofs.Common.{ℕ, drop}
use Rattle.std.specs.Prelude.{map, Option}
use Rattle.c_raw.specs.Views.{param_view}
use Rattle.c_form.specs.Blames.{Blames}
use Rattle.c_form.proofs.KindOrder.{kinds_above}
use Rattle.c_form.proofs.kinds.kinds_in_order.Given as goal

-- whatever blames what is left blames it all
abbrev pub invariant-loop-param : goal.invariant-loop-param
invariant-loop-param l =
    (new : Option ℕ) → Blames l.least new (kinds_above l.highest (map param_view (drop l.param-index l.params)))
    → Blames l.fn.least new (kinds_above 0 (map param_view l.params))
