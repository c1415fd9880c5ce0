use Rattle.va_sem.proofs.LookedAtArguments.{all_looked_at}
use Rattle.va_sem.proofs.findings.count_by_name.Goals as goal

pub returns-in-None : goal.returns-in-None
returns-in-None c = rw c.in-None.is (all_looked_at c.args.args.now 0)
