use Rattle.std.specs.Ordering.{nat_cmp}
use Rattle.std.specs.BTreeMap as tree
use Rattle.std.proofs.Common.{[]}
use Rattle.std.specs.List.{list_any}
use Rattle.va_sem.specs.rules.BranchKinds.{always_contributes}
use Rattle.va_sem.specs.rules.Findings.{blocks_of, item_blocks}
use Rattle.va_sem.proofs.BranchSets.{AddsOn}
use Rattle.va_sem.proofs.coverage.covered.Given as goal

abbrev pub invariant-loop-item : goal.invariant-loop-item
invariant-loop-item l =
    AddsOn (λ b items. list_any (always_contributes (tree.get nat_cmp l.meanings) b) (blocks_of items)) (λ b item. list_any (always_contributes (tree.get nat_cmp l.meanings) b) (item_blocks item)) l.items [] l.item-index l.branches.items
