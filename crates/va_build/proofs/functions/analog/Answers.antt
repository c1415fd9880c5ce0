use Rattle.std.proofs.Common.{arith, refl, [], ◌∷◌}
use Rattle.va_build.specs.Reading.{row_symbols}
use Rattle.va_build.specs.SourceItems.{analog}
use Rattle.va_build.proofs.TakenRows.{read}
use Rattle.va_build.proofs.DueRows.{behind, no_other, node_left, one_due, passed, passed_by, taken, token_left}
use Rattle.va_build.proofs.functions.analog.Goals as goal

pub returns-in_ok-body-in-82 : goal.returns-in_ok-body-in-82
unfolding row_symbols
returns-in_ok-body-in-82 c = read (analog c.args.e.now c.args.start) _ _ _ _ 82 _ c.enter.ensures c.in-82.is (grind arith) (grind arith) (grind arith) (grind arith)

pub returns-in_ok-body-in-83 : goal.returns-in_ok-body-in-83
unfolding row_symbols
returns-in_ok-body-in-83 c = read (analog c.args.e.now c.args.start) _ _ _ _ 83 _ c.enter.ensures c.in-83.is (grind arith) (grind arith) (grind arith) (grind arith)

pub enter-requires : goal.enter-requires
enter-requires c = node_left c.requires.due

pub pass-requires : goal.pass-requires
unfolding row_symbols
pass-requires c = token_left (taken 82 c.requires.due c.enter.ensures c.in-82.is)

pub optional_type-ty-requires : goal.optional_type-ty-requires
unfolding row_symbols
optional_type-ty-requires c = record { due = one_due (passed (taken 82 c.requires.due c.enter.ensures c.in-82.is) c.pass.ensures) }

pub pass-requires-in-82 : goal.pass-requires-in-82
unfolding row_symbols
pass-requires-in-82 c = token_left (passed_by (behind (passed (taken 82 c.requires.due c.enter.ensures c.in-82.is) c.pass.ensures) c.optional_type-ty.ensures) c.in_ok-name-in-82.ensures.passed c.in_ok-name-in-82.ensures.nodes)

pub function_items-requires-clause-due : goal.function_items-requires-clause-due
unfolding row_symbols
function_items-requires-clause-due c = one_due (passed (passed_by (behind (passed (taken 82 c.requires.due c.enter.ensures c.in-82.is) c.pass.ensures) c.optional_type-ty.ensures) c.in_ok-name-in-82.ensures.passed c.in_ok-name-in-82.ensures.nodes) c.pass-in-82.ensures)

pub pass-requires-in-82-2 : goal.pass-requires-in-82-2
unfolding row_symbols
pass-requires-in-82-2 c = token_left (behind (behind (passed (passed_by (behind (passed (taken 82 c.requires.due c.enter.ensures c.in-82.is) c.pass.ensures) c.optional_type-ty.ensures) c.in_ok-name-in-82.ensures.passed c.in_ok-name-in-82.ensures.nodes) c.pass-in-82.ensures) c.in_ok-list-in-82.ensures) c.in_ok-body-in-82.ensures)

pub unreachable-requires : goal.unreachable-requires
unreachable-requires c = no_other (82 ∷ 83 ∷ []) c.requires.due c.enter.ensures refl (c.in_default.in_default-own.rest.0.1, (c.in_default.in_default-own.rest.1, tt))

pub named-requires-clause-due : goal.named-requires-clause-due
unfolding row_symbols
named-requires-clause-due c = token_left (behind (passed (taken 82 c.requires.due c.enter.ensures c.in-82.is) c.pass.ensures) c.optional_type-ty.ensures)

pub one_statement-requires-clause-due : goal.one_statement-requires-clause-due
unfolding row_symbols
one_statement-requires-clause-due c = one_due (behind (passed (passed_by (behind (passed (taken 82 c.requires.due c.enter.ensures c.in-82.is) c.pass.ensures) c.optional_type-ty.ensures) c.in_ok-name-in-82.ensures.passed c.in_ok-name-in-82.ensures.nodes) c.pass-in-82.ensures) c.in_ok-list-in-82.ensures)

pub one_statement-requires-in-83-clause-due : goal.one_statement-requires-in-83-clause-due
unfolding row_symbols
one_statement-requires-in-83-clause-due c = one_due (taken 83 c.requires.due c.enter.ensures c.in-83.is)
