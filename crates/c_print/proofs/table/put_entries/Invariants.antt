use Rattle.std.proofs.Common.{List, ℕ, drop}
use Rattle.std.specs.Prelude.{codes, ◌++◌}
use Rattle.c_tree.specs.Words.{word}
use Rattle.c_tree.specs.Text.{entry_words}
use Rattle.c_print.specs.Prints.{Prints}
use Rattle.c_print.proofs.Numbered.{numbered_words}
use Rattle.c_print.proofs.table.put_entries.Given as goal

-- whatever prints the elements that are left prints them all
abbrev pub invariant-loop-index : goal.invariant-loop-index
invariant-loop-index l =
    (new : List ℕ) → Prints l.out.items new (numbered_words (λ i entry. entry_words l.k i entry ++ word (codes ",")) l.index (drop l.index l.entries))
    → Prints l.fn.out.items new (numbered_words (λ i entry. entry_words l.k i entry ++ word (codes ",")) 0 l.entries)
