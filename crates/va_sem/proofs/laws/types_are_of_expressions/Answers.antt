use Rattle.va_sem.proofs.TypesOfMarked.{types_are_of_expressions}
use Rattle.va_sem.proofs.laws.types_are_of_expressions.Goals as goal

pub returns : goal.returns
returns c = types_are_of_expressions
