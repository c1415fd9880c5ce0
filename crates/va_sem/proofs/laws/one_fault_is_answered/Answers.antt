use Rattle.va_sem.proofs.OneFault.{one_fault_is_answered}
use Rattle.va_sem.proofs.laws.one_fault_is_answered.Goals as goal

pub returns : goal.returns
returns c = one_fault_is_answered
