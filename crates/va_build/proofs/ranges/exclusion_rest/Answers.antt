use Rattle.std.proofs.Common.{arith, refl, [], ◌∷◌}
use Rattle.va_build.specs.Reading.{row_symbols}
use Rattle.va_build.specs.SourceItems.{exclusion_rest}
use Rattle.va_build.proofs.TakenRows.{read}
use Rattle.va_build.proofs.DueRows.{behind, no_other, node_left, one_due, passed, taken, token_left}
use Rattle.va_build.proofs.ranges.exclusion_rest.Goals as goal

pub returns-in_ok-high-in-74 : goal.returns-in_ok-high-in-74
unfolding row_symbols
returns-in_ok-high-in-74 c = read (exclusion_rest c.args.e.now c.args.low) _ _ _ _ 74 _ c.enter.ensures c.in-74.is (grind arith) (grind arith) (grind arith) (grind arith)

pub returns-in-75 : goal.returns-in-75
unfolding row_symbols
returns-in-75 c = read (exclusion_rest c.args.e.now c.args.low) _ _ _ _ 75 _ c.enter.ensures c.in-75.is (grind arith) (grind arith) (grind arith) (grind arith)

pub enter-requires : goal.enter-requires
enter-requires c = node_left c.requires.due

pub pass-requires : goal.pass-requires
unfolding row_symbols
pass-requires c = token_left (taken 74 c.requires.due c.enter.ensures c.in-74.is)

pub is_upper_closed-above-requires : goal.is_upper_closed-above-requires
unfolding row_symbols
is_upper_closed-above-requires c = record { due = one_due (behind (passed (taken 74 c.requires.due c.enter.ensures c.in-74.is) c.pass.ensures) c.in_ok-high-in-74.ensures) }

pub pass-requires-in-75 : goal.pass-requires-in-75
unfolding row_symbols
pass-requires-in-75 c = token_left (taken 75 c.requires.due c.enter.ensures c.in-75.is)

pub unreachable-requires : goal.unreachable-requires
unreachable-requires c = no_other (74 ∷ 75 ∷ []) c.requires.due c.enter.ensures refl (c.in_default.in_default-own.rest.0.1, (c.in_default.in_default-own.rest.1, tt))

pub expression-requires-clause-due : goal.expression-requires-clause-due
unfolding row_symbols
expression-requires-clause-due c = one_due (passed (taken 74 c.requires.due c.enter.ensures c.in-74.is) c.pass.ensures)
