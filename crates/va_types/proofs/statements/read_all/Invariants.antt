use Rattle.std.specs.Prelude.{map}
use Rattle.va_tree.specs.Expressions.{expression_of}
use Rattle.va_types.proofs.Visiting.{WalksOn, types_over, looked_over}
use Rattle.va_types.proofs.statements.read_all.Given as goal

abbrev pub invariant-loop-e : goal.invariant-loop-e
invariant-loop-e l = WalksOn l.table (λ es. types_over l.table (map expression_of es)) (λ es. looked_over l.table (map expression_of es)) l.es l.fn.found l.e-index l.found
