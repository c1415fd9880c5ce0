use Rattle.std.proofs.Common.{◌+◌, length}
use Rattle.graphs.specs.Marks.{Giving, spare}
use Rattle.graphs.proofs.marks.give.Given as goal

abbrev pub invariant-loop-target : goal.invariant-loop-target
invariant-loop-target l = Giving (length l.fn.marks) l.edges l.seeds l.node l.handed l.row l.target-index l.marks l.work.items (spare l.fn.marks + length l.fn.work.items)
