use Rattle.std.proofs.Common.{arith, refl}
use Rattle.va_build.specs.Reading.{row_symbols}
use Rattle.va_build.specs.SourceItems.{interval}
use Rattle.va_build.proofs.TakenRows.{read}
use Rattle.va_build.proofs.DueRows.{behind, node_left, one_due, only, passed, taken_only, token_left}
use Rattle.va_build.proofs.ranges.interval.Goals as goal

pub returns : goal.returns
unfolding row_symbols
returns c = read (interval c.args.e.now) _ _ _ _ 66 _ c.enter.ensures (only 66 c.requires.due c.enter.ensures refl) (grind arith) (grind arith) (grind arith) (grind arith)

pub enter-requires : goal.enter-requires
enter-requires c = node_left c.requires.due

pub is_lower_closed-below-requires : goal.is_lower_closed-below-requires
unfolding row_symbols
is_lower_closed-below-requires c = record { due = one_due (taken_only 66 c.requires.due c.enter.ensures refl) }

pub pass-requires : goal.pass-requires
unfolding row_symbols
pass-requires c = token_left (behind (behind (taken_only 66 c.requires.due c.enter.ensures refl) c.is_lower_closed-below.ensures) c.in_ok-low.ensures)

pub is_upper_closed-above-requires : goal.is_upper_closed-above-requires
unfolding row_symbols
is_upper_closed-above-requires c = record { due = one_due (behind (passed (behind (behind (taken_only 66 c.requires.due c.enter.ensures refl) c.is_lower_closed-below.ensures) c.in_ok-low.ensures) c.pass.ensures) c.in_ok-high.ensures) }

pub expression-requires-clause-due : goal.expression-requires-clause-due
unfolding row_symbols
expression-requires-clause-due c = one_due (behind (taken_only 66 c.requires.due c.enter.ensures refl) c.is_lower_closed-below.ensures)

pub expression-requires-2-clause-due : goal.expression-requires-2-clause-due
unfolding row_symbols
expression-requires-2-clause-due c = one_due (passed (behind (behind (taken_only 66 c.requires.due c.enter.ensures refl) c.is_lower_closed-below.ensures) c.in_ok-low.ensures) c.pass.ensures)
