use Rattle.std.proofs.Common.{take}
use Rattle.graphs.specs.Work.{Spreads}
use Rattle.graphs.proofs.worklist.begin.Given as goal

abbrev pub invariant-loop-seed : goal.invariant-loop-seed
invariant-loop-seed l = Spreads l.n l.edges l.seeds (take l.seed-index l.seeds) l.marked l.work.items
