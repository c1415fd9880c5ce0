use Rattle.std.proofs.Common.{take}
use Rattle.std.specs.List.{flat_map}
use Rattle.c_tree.specs.Text.{access_row_words}
use Rattle.c_print.specs.Prints.{Prints}
use Rattle.c_print.proofs.function.put_access_rows.Given as goal

abbrev pub invariant-loop-row : goal.invariant-loop-row
invariant-loop-row l = Prints l.fn.out.items l.out.items (flat_map access_row_words (take l.row-index l.rows))
