use Rattle.std.proofs.Common.{arith, refl, ◌++◌, ◌∷◌, []}
use Rattle.va_build.specs.Reading.{row_symbols}
use Rattle.va_build.specs.SourceStatements.{more_values}
use Rattle.va_build.proofs.TakenRows.{read_end_row, reads_on_row, pushed, nothing_behind}
use Rattle.va_build.proofs.DueRows.{behind, no_other, node_left, one_due, passed, taken, token_left}
use Rattle.va_build.proofs.statement_parts.values_behind.Goals as goal

pub loop-reader-preserved : goal.loop-reader-preserved
unfolding row_symbols
loop-reader-preserved c = record { reads = reads_on_row (λ at t. c.loop-reader.list.items ++ more_values c.args.e.now at t) _ _ _ _ _ _ _ 115 c.loop-reader.invariant.reads c.enter.ensures c.in-115.is (pushed _ _ _ _ _ _ c.in_ok-push-in-115.ensures.items (grind arith) (grind arith)) (grind arith) (grind arith) (grind arith); due = behind (passed (taken 115 c.loop-reader.invariant.due c.enter.ensures c.in-115.is) c.pass.ensures) c.in_ok-next-in-115.ensures }

pub returns-in-116 : goal.returns-in-116
unfolding row_symbols
returns-in-116 c = read_end_row (λ at t. c.loop-reader.list.items ++ more_values c.args.e.now at t) _ _ _ _ _ 116 _ c.loop-reader.invariant.reads c.enter.ensures c.in-116.is refl (nothing_behind _)

pub enter-requires : goal.enter-requires
enter-requires c = node_left c.loop-reader.invariant.due

pub pass-requires : goal.pass-requires
unfolding row_symbols
pass-requires c = token_left (taken 115 c.loop-reader.invariant.due c.enter.ensures c.in-115.is)

pub expression-requires-clause-due : goal.expression-requires-clause-due
unfolding row_symbols
expression-requires-clause-due c = one_due (passed (taken 115 c.loop-reader.invariant.due c.enter.ensures c.in-115.is) c.pass.ensures)

pub unreachable-requires : goal.unreachable-requires
unreachable-requires c = no_other (115 ∷ 116 ∷ []) c.loop-reader.invariant.due c.enter.ensures refl (c.in_default.in_default-own.rest.0.1, (c.in_default.in_default-own.rest.1, tt))
