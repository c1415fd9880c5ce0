use Rattle.va_sem.proofs.VariablesReached.{variables_are_reached}
use Rattle.va_sem.proofs.reach_laws.variables_are_reached.Goals as goal

pub returns : goal.returns
returns c = variables_are_reached
