use Rattle.va_sem.proofs.RuleLaws.{rules_are_monotone}
use Rattle.va_sem.proofs.rule_laws.rules_are_monotone.Goals as goal

pub returns : goal.returns
returns c = rules_are_monotone
