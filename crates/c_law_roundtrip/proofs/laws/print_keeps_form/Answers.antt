use Rattle.c_law_roundtrip.proofs.Standing.{print_keeps_form}
use Rattle.c_law_roundtrip.proofs.laws.print_keeps_form.Goals as goal

pub returns : goal.returns
returns c = print_keeps_form
