use Rattle.std.proofs.Common.{◌≡◌, ℕ, ◌-◌, ◌<◌, ◌≤◌, [], true, false, length, get_or}
use Rattle.graphs.specs.Components.{Components}
use Rattle.graphs.proofs.cycles.gather_all.Given as goal

abbrev pub invariant-loop-i : goal.invariant-loop-i
invariant-loop-i l = record {
  components : Components (length l.fn.marked) l.edges l.back l.roots.items l.marked l.component;
  empty : l.work.items ≡ [];
  later : (k : ℕ) → l.n - l.i ≤ k → k < l.n → get_or l.marked (get_or l.order k 0) false ≡ true;
}
