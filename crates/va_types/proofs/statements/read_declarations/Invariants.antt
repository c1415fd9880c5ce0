use Rattle.va_tree.specs.Declarations.{declared}
use Rattle.va_types.proofs.Visiting.{WalksOn, types_over, looked_over}
use Rattle.va_types.proofs.statements.read_declarations.Given as goal

abbrev pub invariant-loop-declaration : goal.invariant-loop-declaration
invariant-loop-declaration l = WalksOn l.table (λ ds. types_over l.table (declared ds)) (λ ds. looked_over l.table (declared ds)) l.declarations l.fn.found l.declaration-index l.found
