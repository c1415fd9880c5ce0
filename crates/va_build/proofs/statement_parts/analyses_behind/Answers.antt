use Rattle.std.proofs.Common.{arith, refl, ◌++◌, ◌∷◌, []}
use Rattle.va_build.specs.Reading.{row_symbols}
use Rattle.va_build.specs.SourceStatements.{more_analyses}
use Rattle.va_build.proofs.TakenRows.{read_end_row, reads_on_row, pushed, nothing_behind}
use Rattle.va_build.proofs.DueRows.{no_other, node_left, passed, passed_by, taken, token_left}
use Rattle.va_build.proofs.statement_parts.analyses_behind.Goals as goal

pub loop-reader-preserved : goal.loop-reader-preserved
unfolding row_symbols
loop-reader-preserved c = record { reads = reads_on_row (λ at t. c.loop-reader.list.items ++ more_analyses c.args.e.now at t) _ _ _ _ _ _ _ 121 c.loop-reader.invariant.reads c.enter.ensures c.in-121.is (pushed _ _ _ _ _ _ c.in_ok-push-in-121.ensures.items (grind arith) (grind arith)) (grind arith) (grind arith) (grind arith); due = passed_by (passed (taken 121 c.loop-reader.invariant.due c.enter.ensures c.in-121.is) c.pass.ensures) c.in_ok-next-in-121.ensures.passed c.in_ok-next-in-121.ensures.nodes }

pub returns-in-122 : goal.returns-in-122
unfolding row_symbols
returns-in-122 c = read_end_row (λ at t. c.loop-reader.list.items ++ more_analyses c.args.e.now at t) _ _ _ _ _ 122 _ c.loop-reader.invariant.reads c.enter.ensures c.in-122.is refl (nothing_behind _)

pub enter-requires : goal.enter-requires
enter-requires c = node_left c.loop-reader.invariant.due

pub pass-requires : goal.pass-requires
unfolding row_symbols
pass-requires c = token_left (taken 121 c.loop-reader.invariant.due c.enter.ensures c.in-121.is)

pub named-requires-clause-due : goal.named-requires-clause-due
unfolding row_symbols
named-requires-clause-due c = token_left (passed (taken 121 c.loop-reader.invariant.due c.enter.ensures c.in-121.is) c.pass.ensures)

pub unreachable-requires : goal.unreachable-requires
unreachable-requires c = no_other (121 ∷ 122 ∷ []) c.loop-reader.invariant.due c.enter.ensures refl (c.in_default.in_default-own.rest.0.1, (c.in_default.in_default-own.rest.1, tt))
