use Rattle.va_meaning.proofs.TimeLaws.{time_laws}
use Rattle.va_meaning.proofs.elaboration.modules_keep_to_time.Goals as goal

pub returns : goal.returns
returns c = time_laws
