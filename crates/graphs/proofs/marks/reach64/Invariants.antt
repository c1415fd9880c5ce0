use Rattle.std.proofs.Common.{◌+◌, length}
use Rattle.graphs.specs.Marks.{Hands, spare}
use Rattle.graphs.proofs.marks.reach64.Given as goal

abbrev pub invariant-loop-node : goal.invariant-loop-node
invariant-loop-node l = Hands l.n l.edges l.seeds l.seeds l.marks.items l.work.items

abbrev pub decreases-loop-node : goal.decreases-loop-node
decreases-loop-node l = spare l.marks.items + length l.work.items
