use Rattle.va_sem.proofs.SureContributions.{contributions_are_sure}
use Rattle.va_sem.proofs.rule_laws.contributions_are_sure.Goals as goal

pub returns : goal.returns
returns c = contributions_are_sure
