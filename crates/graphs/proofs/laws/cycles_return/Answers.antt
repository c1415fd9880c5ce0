use Rattle.graphs.proofs.OnCycle.{cycles_return}
use Rattle.graphs.proofs.laws.cycles_return.Goals as goal

pub returns : goal.returns
returns c = cycles_return
