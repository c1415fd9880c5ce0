use Rattle.std.proofs.Common.{take}
use Rattle.std.specs.Prelude.{map}
use Rattle.std.specs.List.{flat_map}
use Rattle.va_base.specs.Tables.{entry_text}
use Rattle.c_tree.specs.TablesOf.{entry_line}
use Rattle.c_tables.specs.Prints.{Prints}
use Rattle.c_tables.proofs.table.put_entries.Given as goal

abbrev pub invariant-loop-entry : goal.invariant-loop-entry
invariant-loop-entry l = Prints l.fn.out.items l.out.items (flat_map entry_text (map entry_line (take l.entry-index l.entries)))
