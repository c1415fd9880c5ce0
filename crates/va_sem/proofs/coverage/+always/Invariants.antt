use Rattle.std.specs.Ordering.{nat_cmp}
use Rattle.std.specs.BTreeMap as tree
use Rattle.std.specs.Prelude.{◌≡◌, ℕ, ◌||◌, ◌&&◌, true, false, [], drop}
use Rattle.va_tree.specs.Statements.{statement_of, statements_of, items_of, defaults_of}
use Rattle.va_sem.specs.rules.BranchKinds.{always_contributes, some_contributes, each_item_contributes, each_default_contributes}
use Rattle.va_sem.specs.rules.Findings.{is_among, some_default}
use Rattle.va_sem.proofs.BranchSets.{AddsOn, KeepsOn}
use Rattle.va_sem.proofs.coverage.+always.Given as goal

abbrev pub invariant-always_in-loop-s : goal.invariant-always_in-loop-s
invariant-always_in-loop-s l =
    AddsOn (λ b body. some_contributes (tree.get nat_cmp l.meanings) b (statements_of body)) (λ b s. always_contributes (tree.get nat_cmp l.meanings) b (statement_of s)) l.body l.fn.branches.items l.s-index l.branches.items

abbrev pub invariant-keep_items-loop-item : goal.invariant-keep_items-loop-item
invariant-keep_items-loop-item l =
    KeepsOn (λ b items. each_item_contributes (tree.get nat_cmp l.meanings) b (items_of items)) (λ b item. always_contributes (tree.get nat_cmp l.meanings) b (statement_of item.body)) l.items l.fn.common.items l.item-index l.common.items

abbrev pub invariant-always_in_defaults-loop-default : goal.invariant-always_in_defaults-loop-default
invariant-always_in_defaults-loop-default l = record {
  kept : (b : ℕ) → ((l.is_first || is_among l.common.items b) && each_default_contributes (tree.get nat_cmp l.meanings) b (defaults_of (drop l.default-index l.defaults))) ≡ each_default_contributes (tree.get nat_cmp l.meanings) b (defaults_of l.defaults);
  start : l.is_first ≡ true → (l.default-index ≡ 0) × (l.common.items ≡ []);
  later : l.is_first ≡ false → some_default l.defaults ≡ true;
}
