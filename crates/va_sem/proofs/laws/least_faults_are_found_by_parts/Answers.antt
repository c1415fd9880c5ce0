use Rattle.va_sem.proofs.LeastByParts.{least_by_parts}
use Rattle.va_sem.proofs.laws.least_faults_are_found_by_parts.Goals as goal

pub returns : goal.returns
returns c = least_by_parts
