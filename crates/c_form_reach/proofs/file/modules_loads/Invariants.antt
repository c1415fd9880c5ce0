use Rattle.std.proofs.Common.{ℕ, drop}
use Rattle.std.specs.Prelude.{Option}
use Rattle.c_tree.specs.rules.Reach.{loads_reached}
use Rattle.c_raw.specs.Views.{module_view}
use Rattle.c_form.specs.Blames.{Blames}
use Rattle.c_form.proofs.Blaming.{parts_of}
use Rattle.c_form_reach.proofs.file.modules_loads.Given as goal

-- whatever blames what is left blames it all
abbrev pub invariant-loop-tree : goal.invariant-loop-tree
invariant-loop-tree l =
    (new : Option ℕ) → Blames l.least new (parts_of module_view (loads_reached 0) (drop l.tree-index l.list))
    → Blames l.fn.least new (parts_of module_view (loads_reached 0) l.list)
