use Rattle.std.proofs.Common.{take}
use Rattle.std.specs.Prelude.{map}
use Rattle.std.specs.List.{flat_map}
use Rattle.va_base.specs.Tables.{module_text}
use Rattle.c_tree.specs.TablesOf.{module_tables}
use Rattle.c_tables.specs.Prints.{Prints}
use Rattle.c_tables.proofs.table.put_modules.Given as goal

abbrev pub invariant-loop-tree : goal.invariant-loop-tree
invariant-loop-tree l = Prints l.fn.out.items l.out.items (flat_map module_text (map module_tables (take l.tree-index l.modules)))
