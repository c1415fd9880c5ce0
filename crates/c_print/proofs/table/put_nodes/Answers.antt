use Rattle.std.proofs.Common.{arith}
use Rattle.std.specs.Prelude.{codes, ◌++◌}
use Rattle.c_tree.specs.Words.{word}
use Rattle.c_tree.specs.Text.{node_words}
use Rattle.c_print.proofs.Numbered.{prints-element, prints-last}
use Rattle.c_print.proofs.Printing.{◌▸◌}
use Rattle.c_print.proofs.table.put_nodes.Goals as goal

pub loop-index-preserved : goal.loop-index-preserved
loop-index-preserved c = λ new more.
    c.loop-index.invariant new
    (prints-element (λ i node. node_words c.args.k i node ++ word (codes ",")) _ _ new c.args.nodes.now c.loop-index.index c.index-nodes-index.result (omega arith)
    c.index-nodes-index.is (c.in_ok-put_node.ensures ▸ c.in_ok-put_word.ensures) more)

pub returns : goal.returns
returns c = c.loop-index.invariant _ (prints-last (λ i node. node_words c.args.k i node ++ word (codes ",")) _ c.args.nodes.now c.loop-index.index (omega arith))
