use Rattle.c_law_spelled.proofs.Spelled.{only_spelled}
use Rattle.c_law_spelled.proofs.laws.only_spelled.Goals as goal

pub returns : goal.returns
returns c = only_spelled
