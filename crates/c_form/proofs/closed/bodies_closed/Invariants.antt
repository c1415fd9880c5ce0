use Rattle.std.proofs.Common.{◌≡◌, take}
use Rattle.std.specs.Prelude.{true}
use Rattle.std.specs.List.{list_all}
use Rattle.c_raw.specs.Views.{module_has_bodies}
use Rattle.c_form.proofs.closed.bodies_closed.Given as goal

abbrev pub invariant-loop-tree : goal.invariant-loop-tree
invariant-loop-tree l = list_all module_has_bodies (take l.tree-index l.raw.modules) ≡ true
