use Rattle.std.specs.Ordering.{nat_cmp}
use Rattle.std.specs.BTreeMap as tree
use Rattle.std.specs.List.{list_any}
use Rattle.std.proofs.Common.{[], refl, arith}
use Rattle.std.proofs.lemmas.List.Folds.{list_any-append}
use Rattle.va_sem.specs.rules.BranchKinds.{always_contributes}
use Rattle.va_sem.specs.rules.Findings.{blocks_of, item_blocks}
use Rattle.va_sem.proofs.BranchSets.{adds_next, adds_end}
use Rattle.va_sem.proofs.coverage.covered.Goals as goal

pub loop-item-preserved : goal.loop-item-preserved
loop-item-preserved c =
    adds_next (λ b items. list_any (always_contributes (tree.get nat_cmp c.args.meanings.now) b) (blocks_of items)) (λ b item. list_any (always_contributes (tree.get nat_cmp c.args.meanings.now) b) (item_blocks item))
    (λ b item rest. list_any-append (always_contributes (tree.get nat_cmp c.args.meanings.now) b) (item_blocks item) (blocks_of rest)) c.args.items.now [] c.loop-item.item-index c.loop-item.branches.items c.always_in_item.new.branches.items c.item-item.result c.loop-item-test.true c.item-item.is c.in_ok-always_in_item.ensures c.loop-item.invariant

pub returns : goal.returns
returns c =
    adds_end (λ b items. list_any (always_contributes (tree.get nat_cmp c.args.meanings.now) b) (blocks_of items)) (λ b item. list_any (always_contributes (tree.get nat_cmp c.args.meanings.now) b) (item_blocks item)) (λ b. refl) c.args.items.now [] c.loop-item.item-index c.loop-item.branches.items (omega arith) c.loop-item.invariant
