use Rattle.std.proofs.Common.{arith}
use Rattle.std.specs.Prelude.{codes, ◌++◌}
use Rattle.c_tree.specs.Words.{word}
use Rattle.c_tree.specs.Text.{entry_words}
use Rattle.c_print.proofs.Numbered.{prints-copied, prints-last}
use Rattle.c_print.proofs.Printing.{◌▸◌}
use Rattle.c_print.proofs.table.put_entries.Goals as goal

pub loop-index-preserved : goal.loop-index-preserved
loop-index-preserved c = λ new more.
    c.loop-index.invariant new
    (prints-copied (λ i entry. entry_words c.args.k i entry ++ word (codes ",")) _ _ new c.args.entries.now c.loop-index.index _ (omega arith)
    (c.in_ok-put_entry.ensures ▸ c.in_ok-put_word.ensures) more)

pub returns : goal.returns
returns c = c.loop-index.invariant _ (prints-last (λ i entry. entry_words c.args.k i entry ++ word (codes ",")) _ c.args.entries.now c.loop-index.index (omega arith))
