use Rattle.std.specs.Ordering.{nat_cmp}
use Rattle.std.specs.BTreeMap as tree
use Rattle.std.proofs.Common.{◌≡◌, ◌≤◌, ℕ, drop, length}
use Rattle.va_sem.specs.Typing.{meaning_at}
use Rattle.va_types.proofs.table.meanings_of.Given as goal

abbrev pub invariant-loop-place : goal.invariant-loop-place
invariant-loop-place l = ((at : ℕ) → tree.get nat_cmp l.map at ≡ meaning_at (drop l.place l.uses) at) × (l.place ≤ length l.uses)

abbrev pub decreases-loop-place : goal.decreases-loop-place
decreases-loop-place l = l.place
