use Rattle.std.proofs.Common.{◌≡◌, ℕ, ◌+◌, true, false, length, get_or}
use Rattle.graphs.specs.Work.{unmarked}
use Rattle.graphs.specs.Components.{Gathers}
use Rattle.graphs.proofs.cycles.gather.Given as goal

abbrev pub invariant-loop-node : goal.invariant-loop-node
invariant-loop-node l = record {
  gathers : Gathers (length l.fn.marked) l.edges l.back l.fn.roots.items l.root l.marked l.component l.work.items;
  kept : (z : ℕ) → get_or l.fn.marked z false ≡ true → get_or l.marked z false ≡ true;
  here : get_or l.marked l.root false ≡ true;
}

abbrev pub decreases-loop-node : goal.decreases-loop-node
decreases-loop-node l = unmarked l.marked + length l.work.items
