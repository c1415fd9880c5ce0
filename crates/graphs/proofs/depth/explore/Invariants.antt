use Rattle.std.proofs.Common.{◌≡◌, ℕ, ◌+◌, ◌-◌, true, false, length, get_or, sum}
use Rattle.graphs.specs.Rows.{row_at}
use Rattle.graphs.specs.Walk.{Walks}
use Rattle.graphs.proofs.depth.explore.Given as goal

abbrev pub invariant-loop-node : goal.invariant-loop-node
invariant-loop-node l = record {
  walks : Walks (length l.fn.seen) l.edges (row_at l.rows.starts.items l.rows.counts.items l.rows.targets.items) l.seen l.left l.stack.items l.done.items;
  kept : (z : ℕ) → get_or l.fn.seen z false ≡ true → get_or l.seen z false ≡ true;
  here : get_or l.seen l.root false ≡ true;
}

abbrev pub decreases-loop-node : goal.decreases-loop-node
decreases-loop-node l = sum l.left + (length l.fn.seen - length l.done.items)
