use Rattle.std.proofs.Common.{arith, refl, ◌++◌, [], ◌∷◌}
use Rattle.va_build.specs.Reading.{row_symbols}
use Rattle.va_build.specs.SourceOf.{discipline_items}
use Rattle.va_build.proofs.TakenRows.{read_end_row, reads_on_row, pushed, nothing_behind}
use Rattle.va_build.proofs.DueRows.{behind, no_other, node_left, one_due, taken}
use Rattle.va_build.proofs.disciplines.discipline_items.Goals as goal

pub loop-reader-preserved : goal.loop-reader-preserved
unfolding row_symbols
loop-reader-preserved c = record { reads = reads_on_row (λ at t. c.loop-reader.list.items ++ discipline_items c.args.e.now at t) _ _ _ _ _ _ _ 23 c.loop-reader.invariant.reads c.enter.ensures c.in-23.is (pushed _ _ _ _ _ _ c.in_ok-push-in-23.ensures.items (grind arith) (grind arith)) (grind arith) (grind arith) (grind arith); due = behind (taken 23 c.loop-reader.invariant.due c.enter.ensures c.in-23.is) c.in_ok-next-in-23.ensures }

pub returns-in-24 : goal.returns-in-24
unfolding row_symbols
returns-in-24 c = read_end_row (λ at t. c.loop-reader.list.items ++ discipline_items c.args.e.now at t) _ _ _ _ _ 24 _ c.loop-reader.invariant.reads c.enter.ensures c.in-24.is refl (nothing_behind _)

pub enter-requires : goal.enter-requires
enter-requires c = node_left c.loop-reader.invariant.due

pub discipline_item-requires-clause-due : goal.discipline_item-requires-clause-due
unfolding row_symbols
discipline_item-requires-clause-due c = one_due (taken 23 c.loop-reader.invariant.due c.enter.ensures c.in-23.is)

pub unreachable-requires : goal.unreachable-requires
unreachable-requires c = no_other (23 ∷ 24 ∷ []) c.loop-reader.invariant.due c.enter.ensures refl (c.in_default.in_default-own.rest.0.1, (c.in_default.in_default-own.rest.1, tt))
