use Rattle.std.specs.Prelude.{nat_eq, ◌&&◌, not}
use Rattle.std.specs.HashSet as bag
use Rattle.std.proofs.Common.{◌≡◌, ℕ, take}
use Rattle.va_sem.specs.rules.Findings.{is_among}
use Rattle.va_sem.proofs.branch_set.in_both.Given as goal

abbrev pub invariant-loop-branch : goal.invariant-loop-branch
invariant-loop-branch l = record {
  kept : (b : ℕ) → is_among l.list.items b ≡ (is_among (take l.branch-index l.first) b && is_among l.second b);
  left : (b : ℕ) → bag.contains nat_eq l.left b ≡ (is_among l.second b && not (is_among (take l.branch-index l.first) b));
}
