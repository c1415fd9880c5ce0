use Rattle.graphs.proofs.Reached.{bridge_both_ways}
use Rattle.graphs.proofs.laws.bridge_both_ways.Goals as goal

pub returns : goal.returns
returns c = bridge_both_ways
