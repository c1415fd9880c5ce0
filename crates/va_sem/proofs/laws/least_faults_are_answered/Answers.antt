use Rattle.va_sem.proofs.Earliest.{least_is_answered}
use Rattle.va_sem.proofs.laws.least_faults_are_answered.Goals as goal

pub returns : goal.returns
returns c = least_is_answered
