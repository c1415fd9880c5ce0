use Rattle.alg_laws.proofs.Least.{least_sets}
use Rattle.alg_laws.proofs.computation_laws.least_sets.Goals as goal

pub returns : goal.returns
returns c = least_sets
