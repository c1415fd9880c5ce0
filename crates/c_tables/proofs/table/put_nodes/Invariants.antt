use Rattle.std.proofs.Common.{List, ℕ, drop}
use Rattle.va_base.specs.Tables.{node_text}
use Rattle.c_tree.specs.TablesOf.{node_line}
use Rattle.c_tables.specs.Prints.{Prints}
use Rattle.c_tables.proofs.Printing.{numbered_texts}
use Rattle.c_tables.proofs.table.put_nodes.Given as goal

-- whatever prints the rows that are left prints them all
abbrev pub invariant-loop-index : goal.invariant-loop-index
invariant-loop-index l =
    (new : List ℕ) → Prints l.out.items new (numbered_texts node_line node_text l.index (drop l.index l.nodes))
    → Prints l.fn.out.items new (numbered_texts node_line node_text 0 l.nodes)
