use Rattle.va_sem.proofs.NumberedNames.{names_are_numbered}
use Rattle.va_sem.proofs.laws.names_are_numbered.Goals as goal

pub returns : goal.returns
returns c = names_are_numbered
