use Rattle.std.proofs.Common.{arith, refl, ◌++◌, [], ◌∷◌}
use Rattle.va_build.specs.Reading.{row_symbols, first_tree, trees}
use Rattle.va_build.specs.SourceItems.{function_item, function_items}
use Rattle.va_build.proofs.TakenRows.{read_end_row, reads_on_row, pushed_list, nothing_behind}
use Rattle.va_build.proofs.DueRows.{behind, no_other, node_left, one_due, taken}
use Rattle.va_build.proofs.functions.function_items.Goals as goal

pub loop-reader-preserved : goal.loop-reader-preserved
unfolding row_symbols
loop-reader-preserved c = record { reads = reads_on_row (λ at t. c.loop-reader.list.items ++ function_items c.args.e.now at t) _ _ _ _ _ _ _ 84 c.loop-reader.invariant.reads c.enter.ensures c.in-84.is (pushed_list _ _ _ _ (function_item c.args.e.now c.loop-reader.reader.at (first_tree (trees c.enter.new.self))) _ c.in_ok-push-in-84.ensures.items (grind arith) (grind arith)) (grind arith) (grind arith) (grind arith); due = behind (taken 84 c.loop-reader.invariant.due c.enter.ensures c.in-84.is) c.in_ok-next-in-84.ensures }

pub returns-in-85 : goal.returns-in-85
unfolding row_symbols
returns-in-85 c = read_end_row (λ at t. c.loop-reader.list.items ++ function_items c.args.e.now at t) _ _ _ _ _ 85 _ c.loop-reader.invariant.reads c.enter.ensures c.in-85.is refl (nothing_behind _)

pub enter-requires : goal.enter-requires
enter-requires c = node_left c.loop-reader.invariant.due

pub function_names-requires-clause-due : goal.function_names-requires-clause-due
unfolding row_symbols
function_names-requires-clause-due c = one_due (taken 84 c.loop-reader.invariant.due c.enter.ensures c.in-84.is)

pub unreachable-requires : goal.unreachable-requires
unreachable-requires c = no_other (84 ∷ 85 ∷ []) c.loop-reader.invariant.due c.enter.ensures refl (c.in_default.in_default-own.rest.0.1, (c.in_default.in_default-own.rest.1, tt))
