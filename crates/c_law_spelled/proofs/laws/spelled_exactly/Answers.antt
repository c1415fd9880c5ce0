use Rattle.c_law_spelled.proofs.Spelled.{spelled_exactly}
use Rattle.c_law_spelled.proofs.laws.spelled_exactly.Goals as goal

pub returns : goal.returns
returns c = spelled_exactly
