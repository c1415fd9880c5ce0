use Rattle.std.proofs.Common.{ℕ, drop}
use Rattle.std.specs.Prelude.{Option}
use Rattle.std.specs.List.{flat_map}
use Rattle.c_tree.specs.rules.Bodies.{bodies_of}
use Rattle.c_raw.specs.Views.{module_view}
use Rattle.c_form.specs.Blames.{Blames}
use Rattle.c_form.proofs.Blaming.{parts_of}
use Rattle.c_form.proofs.walk.modules.Given as goal

-- whatever blames what is left blames it all
abbrev pub invariant-loop-tree : goal.invariant-loop-tree
invariant-loop-tree g l =
    (new : Option ℕ) → Blames l.least new (parts_of module_view (λ m. flat_map (g.R.BodyRule.blamed m) (bodies_of m)) (drop l.tree-index l.list))
    → Blames l.fn.least new (parts_of module_view (λ m. flat_map (g.R.BodyRule.blamed m) (bodies_of m)) l.list)
