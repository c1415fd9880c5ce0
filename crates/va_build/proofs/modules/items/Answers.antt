use Rattle.std.proofs.Common.{refl, ◌++◌, [], ◌∷◌}
use Rattle.va_build.specs.Reading.{row_symbols}
use Rattle.va_build.specs.SourceOf.{items}
use Rattle.va_build.proofs.ItemRows.{items_on}
use Rattle.va_build.proofs.TakenRows.{read_end_row, nothing_behind}
use Rattle.va_build.proofs.DueRows.{behind, no_other, node_left, one_due, taken}
use Rattle.va_build.proofs.modules.items.Goals as goal

pub loop-reader-preserved : goal.loop-reader-preserved
unfolding row_symbols
loop-reader-preserved c = record { reads = items_on c.args.e.now _ _ _ _ _ 37 _ _ _ _ _ c.loop-reader.invariant.reads c.enter.ensures c.in-37.is refl c.in_ok-next-in-37.ensures c.in_ok-push-in-37.ensures.items; due = behind (taken 37 c.loop-reader.invariant.due c.enter.ensures c.in-37.is) c.in_ok-next-in-37.ensures }

pub returns-in-38 : goal.returns-in-38
unfolding row_symbols
returns-in-38 c = read_end_row (λ at t. c.loop-reader.list.items ++ items c.args.e.now at t) _ _ _ _ _ 38 _ c.loop-reader.invariant.reads c.enter.ensures c.in-38.is refl (nothing_behind _)

pub enter-requires : goal.enter-requires
enter-requires c = node_left c.loop-reader.invariant.due

pub item-requires-clause-due : goal.item-requires-clause-due
unfolding row_symbols
item-requires-clause-due c = one_due (taken 37 c.loop-reader.invariant.due c.enter.ensures c.in-37.is)

pub unreachable-requires : goal.unreachable-requires
unreachable-requires c = no_other (37 ∷ 38 ∷ []) c.loop-reader.invariant.due c.enter.ensures refl (c.in_default.in_default-own.rest.0.1, (c.in_default.in_default-own.rest.1, tt))
