use Rattle.std.proofs.Common.{arith, ◌∷◌, []}
use Rattle.va_build.specs.Reading.{row_symbols}
use Rattle.va_build.specs.SourceStatements.{statement}
use Rattle.va_build.proofs.TakenRows.{read}
use Rattle.va_build.proofs.DueRows.{behind, node_left, not_among, one_due, passed, taken, token_left}
use Rattle.va_build.proofs.statement_parts.simple.Goals as goal

pub returns-in_ok-value-in-96 : goal.returns-in_ok-value-in-96
unfolding row_symbols
returns-in_ok-value-in-96 c = read (statement c.args.e.now) _ _ _ _ 96 _ c.enter.ensures c.in-96.is (grind arith) (grind arith) (grind arith) (grind arith)

pub returns-in_ok-args-in-97 : goal.returns-in_ok-args-in-97
unfolding row_symbols
returns-in_ok-args-in-97 c = read (statement c.args.e.now) _ _ _ _ 97 _ c.enter.ensures c.in-97.is (grind arith) (grind arith) (grind arith) (grind arith)

pub returns-in-98 : goal.returns-in-98
unfolding row_symbols
returns-in-98 c = read (statement c.args.e.now) _ _ _ _ 98 _ c.enter.ensures c.in-98.is (grind arith) (grind arith) (grind arith) (grind arith)

pub enter-requires : goal.enter-requires
enter-requires c = node_left c.requires.due

pub pass-at-requires : goal.pass-at-requires
unfolding row_symbols
pass-at-requires c = token_left (taken 96 c.requires.due c.enter.ensures c.in-96.is)

pub named_statement-requires-clause-due : goal.named_statement-requires-clause-due
unfolding row_symbols
named_statement-requires-clause-due c = one_due (passed (taken 96 c.requires.due c.enter.ensures c.in-96.is) c.pass-at.ensures)

pub pass-at-requires-in-97 : goal.pass-at-requires-in-97
unfolding row_symbols
pass-at-requires-in-97 c = token_left (taken 97 c.requires.due c.enter.ensures c.in-97.is)

pub task_arguments-requires-clause-due : goal.task_arguments-requires-clause-due
unfolding row_symbols
task_arguments-requires-clause-due c = one_due (passed (taken 97 c.requires.due c.enter.ensures c.in-97.is) c.pass-at-in-97.ensures)

pub pass-requires : goal.pass-requires
unfolding row_symbols
pass-requires c = token_left (behind (passed (taken 97 c.requires.due c.enter.ensures c.in-97.is) c.pass-at-in-97.ensures) c.in_ok-args-in-97.ensures)

pub pass-at-requires-in-98 : goal.pass-at-requires-in-98
unfolding row_symbols
pass-at-requires-in-98 c = token_left (taken 98 c.requires.due c.enter.ensures c.in-98.is)

pub unreachable-requires : goal.unreachable-requires
unreachable-requires c = not_among (96 ∷ 97 ∷ 98 ∷ []) c.enter.ensures c.requires.row (c.in_default.in_default-own.rest.0.0.1, (c.in_default.in_default-own.rest.0.1, (c.in_default.in_default-own.rest.1, tt)))
