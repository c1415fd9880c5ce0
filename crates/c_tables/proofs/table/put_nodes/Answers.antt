use Rattle.std.proofs.Common.{arith}
use Rattle.va_base.specs.Tables.{node_text}
use Rattle.c_tree.specs.TablesOf.{node_line}
use Rattle.c_tables.proofs.Printing.{prints_numbered, prints_last_numbered}
use Rattle.c_tables.proofs.table.put_nodes.Goals as goal

pub loop-index-preserved : goal.loop-index-preserved
loop-index-preserved c = λ new more.
    c.loop-index.invariant new
    (prints_numbered node_line node_text _ _ new c.args.nodes.now c.loop-index.index c.index-nodes-index.result (omega arith) c.index-nodes-index.is c.in_ok-put_node.ensures more)

pub returns : goal.returns
returns c = c.loop-index.invariant _ (prints_last_numbered node_line node_text _ c.args.nodes.now c.loop-index.index (omega arith))
