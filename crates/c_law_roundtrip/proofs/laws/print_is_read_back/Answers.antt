use Rattle.c_law_roundtrip.proofs.Itself.{print_is_read_back}
use Rattle.c_law_roundtrip.proofs.laws.print_is_read_back.Goals as goal

pub returns : goal.returns
returns c = print_is_read_back
