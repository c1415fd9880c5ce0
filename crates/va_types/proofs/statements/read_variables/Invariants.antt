use Rattle.va_tree.specs.Declarations.{initialisers}
use Rattle.va_types.proofs.Visiting.{WalksOn, types_over, looked_over}
use Rattle.va_types.proofs.statements.read_variables.Given as goal

abbrev pub invariant-loop-variable : goal.invariant-loop-variable
invariant-loop-variable l = WalksOn l.table (λ vs. types_over l.table (initialisers vs)) (λ vs. looked_over l.table (initialisers vs)) l.variables l.fn.found l.variable-index l.found
