use Rattle.std.proofs.Common.{arith, refl, ◌++◌, [], ◌∷◌}
use Rattle.va_build.specs.Reading.{row_symbols}
use Rattle.va_build.specs.SourceOf.{nature_items}
use Rattle.va_build.proofs.TakenRows.{read_end_row, reads_on_row, pushed, nothing_behind}
use Rattle.va_build.proofs.DueRows.{behind, no_other, node_left, one_due, passed, taken, token_left}
use Rattle.va_build.proofs.natures.nature_items.Goals as goal

pub loop-reader-preserved : goal.loop-reader-preserved
unfolding row_symbols
loop-reader-preserved c = record { reads = reads_on_row (λ at t. c.loop-reader.list.items ++ nature_items c.args.e.now at t) _ _ _ _ _ _ _ 20 c.loop-reader.invariant.reads c.enter.ensures c.in-20.is (pushed _ _ _ _ _ _ c.in_ok-push-in-20.ensures.items (grind arith) (grind arith)) (grind arith) (grind arith) (grind arith); due = passed (behind (passed (passed (taken 20 c.loop-reader.invariant.due c.enter.ensures c.in-20.is) c.pass-at.ensures) c.pass.ensures) c.in_ok-value-in-20.ensures) c.pass-in-20.ensures }

pub returns-in-21 : goal.returns-in-21
unfolding row_symbols
returns-in-21 c = read_end_row (λ at t. c.loop-reader.list.items ++ nature_items c.args.e.now at t) _ _ _ _ _ 21 _ c.loop-reader.invariant.reads c.enter.ensures c.in-21.is refl (nothing_behind _)

pub enter-requires : goal.enter-requires
enter-requires c = node_left c.loop-reader.invariant.due

pub pass-at-requires : goal.pass-at-requires
unfolding row_symbols
pass-at-requires c = token_left (taken 20 c.loop-reader.invariant.due c.enter.ensures c.in-20.is)

pub pass-requires : goal.pass-requires
unfolding row_symbols
pass-requires c = token_left (passed (taken 20 c.loop-reader.invariant.due c.enter.ensures c.in-20.is) c.pass-at.ensures)

pub pass-requires-in-20 : goal.pass-requires-in-20
unfolding row_symbols
pass-requires-in-20 c = token_left (behind (passed (passed (taken 20 c.loop-reader.invariant.due c.enter.ensures c.in-20.is) c.pass-at.ensures) c.pass.ensures) c.in_ok-value-in-20.ensures)

pub unreachable-requires : goal.unreachable-requires
unreachable-requires c = no_other (20 ∷ 21 ∷ []) c.loop-reader.invariant.due c.enter.ensures refl (c.in_default.in_default-own.rest.0.1, (c.in_default.in_default-own.rest.1, tt))

pub argument-requires-clause-due : goal.argument-requires-clause-due
unfolding row_symbols
argument-requires-clause-due c = one_due (passed (passed (taken 20 c.loop-reader.invariant.due c.enter.ensures c.in-20.is) c.pass-at.ensures) c.pass.ensures)
