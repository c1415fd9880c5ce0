use Rattle.std.proofs.Common.{List, ℕ, drop}
use Rattle.std.specs.Prelude.{codes, ◌++◌}
use Rattle.c_tree.specs.Words.{word}
use Rattle.c_tree.specs.Text.{node_words}
use Rattle.c_print.specs.Prints.{Prints}
use Rattle.c_print.proofs.Numbered.{numbered_words}
use Rattle.c_print.proofs.table.put_nodes.Given as goal

-- whatever prints the elements that are left prints them all
abbrev pub invariant-loop-index : goal.invariant-loop-index
invariant-loop-index l =
    (new : List ℕ) → Prints l.out.items new (numbered_words (λ i node. node_words l.k i node ++ word (codes ",")) l.index (drop l.index l.nodes))
    → Prints l.fn.out.items new (numbered_words (λ i node. node_words l.k i node ++ word (codes ",")) 0 l.nodes)
