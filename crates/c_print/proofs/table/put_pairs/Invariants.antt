use Rattle.std.proofs.Common.{take}
use Rattle.std.specs.Prelude.{codes, ◌++◌}
use Rattle.std.specs.List.{flat_map}
use Rattle.c_tree.specs.Words.{word}
use Rattle.c_tree.specs.Text.{pair_words}
use Rattle.c_print.specs.Prints.{Prints}
use Rattle.c_print.proofs.table.put_pairs.Given as goal

abbrev pub invariant-loop-pair : goal.invariant-loop-pair
invariant-loop-pair l = Prints l.fn.out.items l.out.items (flat_map (λ pair. pair_words pair ++ word (codes ",")) (take l.pair-index l.pairs))
