use Rattle.graphs.proofs.Reached.{bridge}
use Rattle.graphs.proofs.laws.bridge.Goals as goal

pub returns : goal.returns
returns c = bridge
