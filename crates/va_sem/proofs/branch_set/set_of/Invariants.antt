use Rattle.std.specs.Prelude.{nat_eq}
use Rattle.std.specs.HashSet as bag
use Rattle.std.proofs.Common.{◌≡◌, ℕ, take}
use Rattle.va_sem.specs.rules.Findings.{is_among}
use Rattle.va_sem.proofs.branch_set.set_of.Given as goal

abbrev pub invariant-loop-branch : goal.invariant-loop-branch
invariant-loop-branch l = (b : ℕ) → bag.contains nat_eq l.set b ≡ is_among (take l.branch-index l.branches) b
