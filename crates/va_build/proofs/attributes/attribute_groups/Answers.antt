use Rattle.std.proofs.Common.{arith, refl, ap, ◌∙◌, ◌+◌, ◌++◌, ℕ, List, [], ◌∷◌}
use Rattle.predict.specs.Tree.{Tree}
use Rattle.va_build.specs.Reading.{row_symbols, first_tree, later_trees, trees}
use Rattle.va_build.specs.SourceItems.{attribute, attribute_group, attribute_groups, more_attributes}
use Rattle.va_build.specs.Width.{width}
use Rattle.va_build.proofs.TakenRows.{read_end_row, reads_on_row, pushed, nothing_behind}
use Rattle.va_build.proofs.DueRows.{group_passed, no_other, node_left, taken}
use Rattle.va_build.proofs.attributes.attribute_groups.Goals as goal

pub loop-reader-preserved : goal.loop-reader-preserved
unfolding row_symbols
loop-reader-preserved c =
    let row = c.enter.ensures in
    let group = c.in_ok-next-in-6.ensures in
    let ts : List Tree = trees c.enter.new.self in
    let one = group.value_is ∙ ap (λ (i : ℕ). attribute_group (attribute c.args.e.now (i + 1) (first_tree ts) ++ more_attributes c.args.e.now (i + 1 + width (first_tree ts)) (first_tree (later_trees ts)))) row.at_is in
    let after = group.at_is ∙ ap (λ (i : ℕ). i + 1 + width (first_tree ts) + width (first_tree (later_trees ts)) + 1) row.at_is in
    record {
      reads = reads_on_row (λ at t. c.loop-reader.list.items ++ attribute_groups c.args.e.now at t) _ _ _ _ _ _ _ 6 c.loop-reader.invariant.reads row c.in-6.is (pushed _ _ _ _ _ _ c.in_ok-push-in-6.ensures.items one (λ j. attribute_groups c.args.e.now (after j) (first_tree (group.trees_are j)))) (ap later_trees group.trees_are) (grind arith) (grind arith);
      due = group_passed (taken 6 c.loop-reader.invariant.due row c.in-6.is) group.trees_are group.at_is;
    }

pub returns-in-7 : goal.returns-in-7
unfolding row_symbols
returns-in-7 c = read_end_row (λ at t. c.loop-reader.list.items ++ attribute_groups c.args.e.now at t) _ _ _ _ _ 7 _ c.loop-reader.invariant.reads c.enter.ensures c.in-7.is refl (nothing_behind _)

pub enter-requires : goal.enter-requires
enter-requires c = node_left c.loop-reader.invariant.due

pub unreachable-requires : goal.unreachable-requires
unreachable-requires c = no_other (6 ∷ 7 ∷ []) c.loop-reader.invariant.due c.enter.ensures refl (c.in_default.in_default-own.rest.0.1, (c.in_default.in_default-own.rest.1, tt))

pub group-requires-clause-due : goal.group-requires-clause-due
unfolding row_symbols
group-requires-clause-due c = taken 6 c.loop-reader.invariant.due c.enter.ensures c.in-6.is
