use Rattle.va_tree.specs.Expressions.{arguments_of}
use Rattle.va_sem.proofs.LookedAtArguments.{all_looked_at, system_looked_at}
use Rattle.va_sem.proofs.findings.count_looked_at.Goals as goal

pub returns-in-Function : goal.returns-in-Function
returns-in-Function c = rw c.in-Function.is (all_looked_at c.args.args.now 0)

pub returns-in-System : goal.returns-in-System
returns-in-System c = system_looked_at c.args.callee c.args.name.now c.as_bytes.result.now c.system_name.result (arguments_of c.args.args.now) _ c.in-System.is c.as_bytes.ensures c.system_name.ensures c.count_by_name.ensures
