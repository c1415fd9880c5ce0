use Rattle.std.proofs.Common.{take}
use Rattle.std.specs.Prelude.{map}
use Rattle.std.specs.List.{flat_map}
use Rattle.va_base.specs.Tables.{pair_text}
use Rattle.c_tree.specs.TablesOf.{pair_line}
use Rattle.c_tables.specs.Prints.{Prints}
use Rattle.c_tables.proofs.table.put_pairs.Given as goal

abbrev pub invariant-loop-pair : goal.invariant-loop-pair
invariant-loop-pair l = Prints l.fn.out.items l.out.items (flat_map pair_text (map pair_line (take l.pair-index l.pairs)))
