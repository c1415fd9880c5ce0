use Rattle.va_sem.proofs.LookedAtArguments.{none_looked_at}
use Rattle.va_sem.proofs.findings.count_by_meaning.Goals as goal

pub returns-in-Task : goal.returns-in-Task
returns-in-Task c = rw c.in-Task.is (none_looked_at c.args.args.now 0)
