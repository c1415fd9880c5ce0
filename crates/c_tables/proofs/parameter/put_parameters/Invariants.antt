use Rattle.std.proofs.Common.{List, ℕ, drop}
use Rattle.va_base.specs.Tables.{parameter_text}
use Rattle.c_tree.specs.TablesOf.{parameter_line}
use Rattle.c_tables.specs.Prints.{Prints}
use Rattle.c_tables.proofs.Printing.{numbered_texts}
use Rattle.c_tables.proofs.parameter.put_parameters.Given as goal

-- whatever prints the rows that are left prints them all
abbrev pub invariant-loop-id : goal.invariant-loop-id
invariant-loop-id l =
    (new : List ℕ) → Prints l.out.items new (numbered_texts parameter_line parameter_text l.id (drop l.id l.rows))
    → Prints l.fn.out.items new (numbered_texts parameter_line parameter_text 0 l.rows)
