use Rattle.alg_laws.proofs.Integers.{integer_laws}
use Rattle.alg_laws.proofs.computation_laws.integers_stay_in_range.Goals as goal

pub returns : goal.returns
returns c = integer_laws
