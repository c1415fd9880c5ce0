use Rattle.std.proofs.Common.{arith}
use Rattle.std.specs.List.{flat_map}
use Rattle.c_tree.specs.rules.Bodies.{bodies_of}
use Rattle.c_raw.specs.Views.{module_view}
use Rattle.c_form.proofs.Blaming.{blames_element, blames_last}
use Rattle.c_form.proofs.walk.modules.Goals as goal

pub loop-tree-preserved : goal.loop-tree-preserved
loop-tree-preserved g c = λ new more.
    c.loop-tree.invariant new
    (blames_element module_view (λ m. flat_map (g.R.BodyRule.blamed m) (bodies_of m)) _ _ new c.args.list.now c.loop-tree.tree-index c.tree-item.result (omega arith) c.tree-item.is
    c.in_ok-one_module.ensures more)

pub returns : goal.returns
returns g c = c.loop-tree.invariant _ (blames_last module_view (λ m. flat_map (g.R.BodyRule.blamed m) (bodies_of m)) _ c.args.list.now c.loop-tree.tree-index (omega arith))
