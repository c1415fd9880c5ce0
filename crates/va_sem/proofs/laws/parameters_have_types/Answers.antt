use Rattle.va_sem.proofs.ParameterTypes.{parameters_have_types}
use Rattle.va_sem.proofs.laws.parameters_have_types.Goals as goal

pub returns : goal.returns
returns c = parameters_have_types
