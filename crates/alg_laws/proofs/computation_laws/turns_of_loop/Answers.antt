use Rattle.alg_laws.proofs.Loop.{turns_of_loop}
use Rattle.alg_laws.proofs.computation_laws.turns_of_loop.Goals as goal

pub returns : goal.returns
returns g c = turns_of_loop _ _ _
