use Rattle.std.proofs.Common.{◌+◌, length}
use Rattle.graphs.specs.Work.{Visits, unmarked}
use Rattle.graphs.specs.Components.{Grows}
use Rattle.graphs.proofs.worklist.visit.Given as goal

abbrev pub invariant-loop-target : goal.invariant-loop-target
invariant-loop-target l = record {
  visits : Visits (length l.fn.marked) l.edges l.seeds l.node l.row l.target-index l.marked l.work.items (unmarked l.fn.marked + length l.fn.work.items);
  grows : Grows l.fn.marked l.fn.work.items l.marked l.work.items;
}
