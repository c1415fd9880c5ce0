use Rattle.std.proofs.Common.{◌≡◌, ℕ, ◌<◌, true, false, [], length, get_or}
use Rattle.graphs.specs.Rows.{row_at}
use Rattle.graphs.specs.Walk.{Walks}
use Rattle.graphs.proofs.depth.explore_all.Given as goal

abbrev pub invariant-loop-root : goal.invariant-loop-root
invariant-loop-root l = record {
  walks : Walks (length l.fn.seen) l.edges (row_at l.rows.starts.items l.rows.counts.items l.rows.targets.items) l.seen l.left l.stack.items l.done.items;
  empty : l.stack.items ≡ [];
  before : (z : ℕ) → z < l.root → get_or l.seen z false ≡ true;
}
