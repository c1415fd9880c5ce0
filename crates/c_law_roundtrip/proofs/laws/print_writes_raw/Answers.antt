use Rattle.c_law_roundtrip.proofs.Standing.{print_writes_raw}
use Rattle.c_law_roundtrip.proofs.laws.print_writes_raw.Goals as goal

pub returns : goal.returns
returns c = print_writes_raw
