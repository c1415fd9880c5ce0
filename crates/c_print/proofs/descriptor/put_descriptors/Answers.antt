use Rattle.std.proofs.Common.{arith}
use Rattle.std.specs.Prelude.{codes, ◌++◌}
use Rattle.c_tree.specs.Words.{word}
use Rattle.c_tree.specs.Text.{descriptor_words}
use Rattle.c_print.proofs.Numbered.{prints-element, prints-last}
use Rattle.c_print.proofs.Printing.{◌▸◌}
use Rattle.c_print.proofs.descriptor.put_descriptors.Goals as goal

pub loop-index-preserved : goal.loop-index-preserved
loop-index-preserved c = λ new more.
    c.loop-index.invariant new
    (prints-element (λ i tree. descriptor_words i tree ++ word (codes ",")) _ _ new c.args.modules.now c.loop-index.index c.index-modules-index.result (omega arith)
    c.index-modules-index.is (c.in_ok-put_descriptor.ensures ▸ c.in_ok-put_word.ensures) more)

pub returns : goal.returns
returns c = c.loop-index.invariant _ (prints-last (λ i tree. descriptor_words i tree ++ word (codes ",")) _ c.args.modules.now c.loop-index.index (omega arith))
