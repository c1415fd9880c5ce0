use Rattle.std.proofs.Common.{arith}
use Rattle.c_tree.specs.rules.Reach.{loads_reached}
use Rattle.c_raw.specs.Views.{module_view}
use Rattle.c_form.proofs.Blaming.{blames_element, blames_last}
use Rattle.c_form_reach.proofs.file.modules_loads.Goals as goal

pub loop-tree-preserved : goal.loop-tree-preserved
loop-tree-preserved c = λ new more.
    c.loop-tree.invariant new
    (blames_element module_view (loads_reached 0) _ _ new c.args.list.now c.loop-tree.tree-index c.tree-item.result (omega arith) c.tree-item.is
    c.in_ok-module_loads.ensures more)

pub returns : goal.returns
returns c = c.loop-tree.invariant _ (blames_last module_view (loads_reached 0) _ c.args.list.now c.loop-tree.tree-index (omega arith))
