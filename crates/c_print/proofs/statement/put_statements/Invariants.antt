use Rattle.std.proofs.Common.{take}
use Rattle.std.specs.List.{flat_map}
use Rattle.c_tree.specs.short.Text.{statement_words}
use Rattle.c_print.specs.Prints.{Prints}
use Rattle.c_print.proofs.statement.put_statements.Given as goal

abbrev pub invariant-loop-statement : goal.invariant-loop-statement
invariant-loop-statement l = Prints l.fn.out.items l.out.items (flat_map statement_words (take l.statement-index l.statements))
