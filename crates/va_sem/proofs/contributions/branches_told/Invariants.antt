use Rattle.std.specs.Prelude.{nat_eq}
use Rattle.std.specs.HashSet as bag
use Rattle.std.specs.List.{list_any}
use Rattle.std.proofs.Common.{◌≡◌, ℕ, take}
use Rattle.va_sem.specs.rules.BranchFacts.{tells}
use Rattle.va_sem.proofs.contributions.branches_told.Given as goal

abbrev pub invariant-loop-finding : goal.invariant-loop-finding
invariant-loop-finding l = (b : ℕ) → bag.contains nat_eq l.set b ≡ list_any (tells l.evidence b) (take l.finding-index l.findings)
