use Rattle.std.proofs.Common.{arith}
use Rattle.c_tree.specs.rules.Fields.{node_cells}
use Rattle.c_raw.specs.Views.{node_view}
use Rattle.c_form.proofs.Blaming.{blames_element, blames_last}
use Rattle.c_form.proofs.field_rows.nodes.Goals as goal

pub loop-found-preserved : goal.loop-found-preserved
loop-found-preserved c = λ m k new more.
    c.loop-found.invariant m k new
    (blames_element node_view (node_cells m) _ _ new c.args.list.now c.loop-found.found-index c.found-item.result (omega arith) c.found-item.is (c.in_ok-node.ensures m k) more)

pub returns : goal.returns
returns c = λ m k. c.loop-found.invariant m k _ (blames_last node_view (node_cells m) _ c.args.list.now c.loop-found.found-index (omega arith))
