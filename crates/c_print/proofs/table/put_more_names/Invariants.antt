use Rattle.std.proofs.Common.{take}
use Rattle.std.specs.Prelude.{codes}
use Rattle.c_tree.specs.Words.{marked, word, string_word}
use Rattle.c_print.specs.Prints.{Prints}
use Rattle.c_print.proofs.table.put_more_names.Given as goal

abbrev pub invariant-loop-name : goal.invariant-loop-name
invariant-loop-name l = Prints l.fn.out.items l.out.items (marked (codes ",") (λ name. word (string_word name)) (take l.name-index l.names))
