use Rattle.std.proofs.Common.{arith}
use Rattle.c_raw.specs.Views.{node_view}
use Rattle.c_tree.specs.rules.Tables.{node_fields}
use Rattle.c_form.proofs.Blaming.{blames_numbered, blames_last_numbered}
use Rattle.c_form.proofs.entries.nodes_fields.Goals as goal

pub loop-index-preserved : goal.loop-index-preserved
loop-index-preserved c = λ new more.
    c.loop-index.invariant new
    (blames_numbered node_view (node_fields) _ _ new c.args.list.now c.loop-index.index c.index-list-index.result (omega arith) c.index-list-index.is
    c.node_fields.ensures more)

pub returns : goal.returns
returns c = c.loop-index.invariant _ (blames_last_numbered node_view (node_fields) _ c.args.list.now c.loop-index.index (omega arith))
