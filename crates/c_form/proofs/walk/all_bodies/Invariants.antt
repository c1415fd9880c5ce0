use Rattle.std.proofs.Common.{ℕ, drop}
use Rattle.std.specs.Prelude.{Option}
use Rattle.c_raw.specs.Views.{module_view}
use Rattle.c_form.specs.Bodies.{body_view}
use Rattle.c_form.specs.Blames.{Blames}
use Rattle.c_form.proofs.Blaming.{parts_of}
use Rattle.c_form.proofs.walk.all_bodies.Given as goal

-- whatever blames what is left blames it all
abbrev pub invariant-loop-body : goal.invariant-loop-body
invariant-loop-body g l =
    (new : Option ℕ) → Blames l.least new (parts_of body_view (g.R.BodyRule.blamed (module_view l.tree)) (drop l.body-index l.list))
    → Blames l.fn.least new (parts_of body_view (g.R.BodyRule.blamed (module_view l.tree)) l.list)
