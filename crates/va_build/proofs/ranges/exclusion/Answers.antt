use Rattle.std.proofs.Common.{arith, refl, [], ◌∷◌}
use Rattle.va_build.specs.Reading.{row_symbols}
use Rattle.va_build.specs.SourceItems.{exclusion}
use Rattle.va_build.proofs.TakenRows.{read}
use Rattle.va_build.proofs.DueRows.{behind, no_other, node_left, one_due, passed, taken, token_left}
use Rattle.va_build.proofs.ranges.exclusion.Goals as goal

pub returns-in_ok-high-in-71 : goal.returns-in_ok-high-in-71
unfolding row_symbols
returns-in_ok-high-in-71 c = read (exclusion c.args.e.now) _ _ _ _ 71 _ c.enter.ensures c.in-71.is (grind arith) (grind arith) (grind arith) (grind arith)

pub returns-in_ok-range-in-72 : goal.returns-in_ok-range-in-72
unfolding row_symbols
returns-in_ok-range-in-72 c = read (exclusion c.args.e.now) _ _ _ _ 72 _ c.enter.ensures c.in-72.is (grind arith) (grind arith) (grind arith) (grind arith)

pub returns-in_ok-value-in-73 : goal.returns-in_ok-value-in-73
unfolding row_symbols
returns-in_ok-value-in-73 c = read (exclusion c.args.e.now) _ _ _ _ 73 _ c.enter.ensures c.in-73.is (grind arith) (grind arith) (grind arith) (grind arith)

pub enter-requires : goal.enter-requires
enter-requires c = node_left c.requires.due

pub pass-requires : goal.pass-requires
unfolding row_symbols
pass-requires c = token_left (taken 71 c.requires.due c.enter.ensures c.in-71.is)

pub pass-requires-in-71 : goal.pass-requires-in-71
unfolding row_symbols
pass-requires-in-71 c = token_left (behind (passed (taken 71 c.requires.due c.enter.ensures c.in-71.is) c.pass.ensures) c.in_ok-low-in-71.ensures)

pub is_upper_closed-above-requires : goal.is_upper_closed-above-requires
unfolding row_symbols
is_upper_closed-above-requires c = record { due = one_due (behind (passed (behind (passed (taken 71 c.requires.due c.enter.ensures c.in-71.is) c.pass.ensures) c.in_ok-low-in-71.ensures) c.pass-in-71.ensures) c.in_ok-high-in-71.ensures) }

pub pass-requires-in-72 : goal.pass-requires-in-72
unfolding row_symbols
pass-requires-in-72 c = token_left (taken 72 c.requires.due c.enter.ensures c.in-72.is)

pub exclusion_rest-requires-clause-due : goal.exclusion_rest-requires-clause-due
unfolding row_symbols
exclusion_rest-requires-clause-due c = one_due (behind (passed (taken 72 c.requires.due c.enter.ensures c.in-72.is) c.pass-in-72.ensures) c.in_ok-low-in-72.ensures)

pub unreachable-requires : goal.unreachable-requires
unreachable-requires c = no_other (71 ∷ 72 ∷ 73 ∷ []) c.requires.due c.enter.ensures refl (c.in_default.in_default-own.rest.0.0.1, (c.in_default.in_default-own.rest.0.1, (c.in_default.in_default-own.rest.1, tt)))

pub expression-requires-clause-due : goal.expression-requires-clause-due
unfolding row_symbols
expression-requires-clause-due c = one_due (passed (taken 71 c.requires.due c.enter.ensures c.in-71.is) c.pass.ensures)

pub expression-requires-in-71-clause-due : goal.expression-requires-in-71-clause-due
unfolding row_symbols
expression-requires-in-71-clause-due c = one_due (passed (behind (passed (taken 71 c.requires.due c.enter.ensures c.in-71.is) c.pass.ensures) c.in_ok-low-in-71.ensures) c.pass-in-71.ensures)

pub expression-requires-in-72-clause-due : goal.expression-requires-in-72-clause-due
unfolding row_symbols
expression-requires-in-72-clause-due c = one_due (passed (taken 72 c.requires.due c.enter.ensures c.in-72.is) c.pass-in-72.ensures)

pub expression-requires-in-73-clause-due : goal.expression-requires-in-73-clause-due
unfolding row_symbols
expression-requires-in-73-clause-due c = one_due (taken 73 c.requires.due c.enter.ensures c.in-73.is)
