use Rattle.va_sem.proofs.RuleLaws.{rules_give_least_sets}
use Rattle.va_sem.proofs.rule_laws.rules_give_least_sets.Goals as goal

pub returns : goal.returns
returns c = rules_give_least_sets
