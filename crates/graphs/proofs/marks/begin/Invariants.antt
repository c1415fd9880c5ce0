use Rattle.std.proofs.Common.{take}
use Rattle.graphs.specs.Marks.{Hands}
use Rattle.graphs.proofs.marks.begin.Given as goal

abbrev pub invariant-loop-seed : goal.invariant-loop-seed
invariant-loop-seed l = Hands l.n l.edges l.seeds (take l.seed-index l.seeds) l.marks l.work.items
