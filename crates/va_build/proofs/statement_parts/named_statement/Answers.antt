use Rattle.std.proofs.Common.{arith, refl, ◌∷◌, []}
use Rattle.va_build.specs.Reading.{row_symbols}
use Rattle.va_build.specs.SourceStatements.{named_statement}
use Rattle.va_build.proofs.TakenRows.{read}
use Rattle.va_build.proofs.DueRows.{behind, no_other, node_left, one_due, passed, passed_by, taken, token_left}
use Rattle.va_build.proofs.statement_parts.named_statement.Goals as goal

pub returns-in_ok-value-in-123 : goal.returns-in_ok-value-in-123
unfolding row_symbols
returns-in_ok-value-in-123 c = read (named_statement c.args.e.now c.args.at) _ _ _ _ 123 _ c.enter.ensures c.in-123.is (grind arith) (grind arith) (grind arith) (grind arith)

pub returns-in_ok-value-in-124 : goal.returns-in_ok-value-in-124
unfolding row_symbols
returns-in_ok-value-in-124 c = read (named_statement c.args.e.now c.args.at) _ _ _ _ 124 _ c.enter.ensures c.in-124.is (grind arith) (grind arith) (grind arith) (grind arith)

pub enter-requires : goal.enter-requires
enter-requires c = node_left c.requires.due

pub pass-requires : goal.pass-requires
unfolding row_symbols
pass-requires c = token_left (taken 123 c.requires.due c.enter.ensures c.in-123.is)

pub expression-requires-clause-due : goal.expression-requires-clause-due
unfolding row_symbols
expression-requires-clause-due c = one_due (passed (taken 123 c.requires.due c.enter.ensures c.in-123.is) c.pass.ensures)

pub pass-requires-in-123 : goal.pass-requires-in-123
unfolding row_symbols
pass-requires-in-123 c = token_left (behind (passed (taken 123 c.requires.due c.enter.ensures c.in-123.is) c.pass.ensures) c.in_ok-value-in-123.ensures)

pub pass-requires-in-124 : goal.pass-requires-in-124
unfolding row_symbols
pass-requires-in-124 c = token_left (taken 124 c.requires.due c.enter.ensures c.in-124.is)

pub named-requires-clause-due : goal.named-requires-clause-due
unfolding row_symbols
named-requires-clause-due c = token_left (passed (taken 124 c.requires.due c.enter.ensures c.in-124.is) c.pass-in-124.ensures)

pub second_node-requires-clause-due : goal.second_node-requires-clause-due
unfolding row_symbols
second_node-requires-clause-due c = one_due (passed_by (passed (taken 124 c.requires.due c.enter.ensures c.in-124.is) c.pass-in-124.ensures) c.in_ok-first-in-124.ensures.passed c.in_ok-first-in-124.ensures.nodes)

pub pass-requires-in-124-2 : goal.pass-requires-in-124-2
unfolding row_symbols
pass-requires-in-124-2 c = token_left (behind (passed_by (passed (taken 124 c.requires.due c.enter.ensures c.in-124.is) c.pass-in-124.ensures) c.in_ok-first-in-124.ensures.passed c.in_ok-first-in-124.ensures.nodes) c.in_ok-second-in-124.ensures)

pub pass-requires-in-124-3 : goal.pass-requires-in-124-3
unfolding row_symbols
pass-requires-in-124-3 c = token_left (passed (behind (passed_by (passed (taken 124 c.requires.due c.enter.ensures c.in-124.is) c.pass-in-124.ensures) c.in_ok-first-in-124.ensures.passed c.in_ok-first-in-124.ensures.nodes) c.in_ok-second-in-124.ensures) c.pass-in-124-2.ensures)

pub expression-requires-in-124-clause-due : goal.expression-requires-in-124-clause-due
unfolding row_symbols
expression-requires-in-124-clause-due c = one_due (passed (passed (behind (passed_by (passed (taken 124 c.requires.due c.enter.ensures c.in-124.is) c.pass-in-124.ensures) c.in_ok-first-in-124.ensures.passed c.in_ok-first-in-124.ensures.nodes) c.in_ok-second-in-124.ensures) c.pass-in-124-2.ensures) c.pass-in-124-3.ensures)

pub pass-requires-in-124-4 : goal.pass-requires-in-124-4
unfolding row_symbols
pass-requires-in-124-4 c = token_left (behind (passed (passed (behind (passed_by (passed (taken 124 c.requires.due c.enter.ensures c.in-124.is) c.pass-in-124.ensures) c.in_ok-first-in-124.ensures.passed c.in_ok-first-in-124.ensures.nodes) c.in_ok-second-in-124.ensures) c.pass-in-124-2.ensures) c.pass-in-124-3.ensures) c.in_ok-value-in-124.ensures)

pub unreachable-requires : goal.unreachable-requires
unreachable-requires c = no_other (123 ∷ 124 ∷ []) c.requires.due c.enter.ensures refl (c.in_default.in_default-own.rest.0.1, (c.in_default.in_default-own.rest.1, tt))
