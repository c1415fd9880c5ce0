use Rattle.va_meaning.proofs.Elaborated.{elaboration_laws}
use Rattle.va_meaning.proofs.elaboration.modules_keep_types_and_bias.Goals as goal

pub returns : goal.returns
returns c = elaboration_laws
