use Rattle.std.proofs.Common.{arith, refl, ◌++◌, [], ◌∷◌}
use Rattle.va_build.specs.Reading.{row_symbols}
use Rattle.va_build.specs.SourceItems.{more_names}
use Rattle.va_build.proofs.TakenRows.{read_end_row, reads_on_row, pushed, nothing_behind}
use Rattle.va_build.proofs.DueRows.{no_other, node_left, passed, passed_by, taken, token_left}
use Rattle.va_build.proofs.name_lists.names_behind.Goals as goal

pub loop-reader-preserved : goal.loop-reader-preserved
unfolding row_symbols
loop-reader-preserved c = record { reads = reads_on_row (λ at t. c.loop-reader.list.items ++ more_names c.args.e.now at t) _ _ _ _ _ _ _ 35 c.loop-reader.invariant.reads c.enter.ensures c.in-35.is (pushed _ _ _ _ _ _ c.in_ok-push-in-35.ensures.items (grind arith) (grind arith)) (grind arith) (grind arith) (grind arith); due = passed_by (passed (taken 35 c.loop-reader.invariant.due c.enter.ensures c.in-35.is) c.pass.ensures) c.in_ok-next-in-35.ensures.passed c.in_ok-next-in-35.ensures.nodes }

pub returns-in-36 : goal.returns-in-36
unfolding row_symbols
returns-in-36 c = read_end_row (λ at t. c.loop-reader.list.items ++ more_names c.args.e.now at t) _ _ _ _ _ 36 _ c.loop-reader.invariant.reads c.enter.ensures c.in-36.is refl (nothing_behind _)

pub enter-requires : goal.enter-requires
enter-requires c = node_left c.loop-reader.invariant.due

pub pass-requires : goal.pass-requires
unfolding row_symbols
pass-requires c = token_left (taken 35 c.loop-reader.invariant.due c.enter.ensures c.in-35.is)

pub unreachable-requires : goal.unreachable-requires
unreachable-requires c = no_other (35 ∷ 36 ∷ []) c.loop-reader.invariant.due c.enter.ensures refl (c.in_default.in_default-own.rest.0.1, (c.in_default.in_default-own.rest.1, tt))

pub named-requires-clause-due : goal.named-requires-clause-due
unfolding row_symbols
named-requires-clause-due c = token_left (passed (taken 35 c.loop-reader.invariant.due c.enter.ensures c.in-35.is) c.pass.ensures)
