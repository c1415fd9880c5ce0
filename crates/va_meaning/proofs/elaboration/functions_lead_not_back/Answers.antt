use Rattle.va_meaning.proofs.CycleLaws.{cycle_laws}
use Rattle.va_meaning.proofs.elaboration.functions_lead_not_back.Goals as goal

pub returns : goal.returns
returns c = cycle_laws
