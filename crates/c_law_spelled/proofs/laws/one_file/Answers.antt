use Rattle.c_law_spelled.proofs.Spelled.{one_file}
use Rattle.c_law_spelled.proofs.laws.one_file.Goals as goal

pub returns : goal.returns
returns c = one_file
