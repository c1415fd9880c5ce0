use Rattle.std.proofs.Common.{◌+◌, length}
use Rattle.graphs.specs.Work.{Spreads, unmarked}
use Rattle.graphs.proofs.worklist.reach.Given as goal

abbrev pub invariant-loop-node : goal.invariant-loop-node
invariant-loop-node l = Spreads l.n l.edges l.seeds l.seeds l.marked.items l.work.items

abbrev pub decreases-loop-node : goal.decreases-loop-node
decreases-loop-node l = unmarked l.marked.items + length l.work.items
