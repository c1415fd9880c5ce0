use Rattle.std.proofs.Common.{arith, refl, [], ◌∷◌}
use Rattle.va_build.specs.Reading.{row_symbols}
use Rattle.va_build.specs.SourceItems.{is_closed}
use Rattle.va_build.proofs.TakenRows.{read}
use Rattle.va_build.proofs.DueRows.{no_other, node_left, taken, token_left}
use Rattle.va_build.proofs.ranges.is_upper_closed.Goals as goal

pub returns-in-69 : goal.returns-in-69
unfolding row_symbols
returns-in-69 c = read (λ at t. is_closed t) _ _ _ _ 69 _ c.enter.ensures c.in-69.is (grind arith) (grind arith) (grind arith) (grind arith)

pub returns-in-70 : goal.returns-in-70
unfolding row_symbols
returns-in-70 c = read (λ at t. is_closed t) _ _ _ _ 70 _ c.enter.ensures c.in-70.is (grind arith) (grind arith) (grind arith) (grind arith)

pub enter-requires : goal.enter-requires
enter-requires c = node_left c.requires.due

pub pass-requires : goal.pass-requires
unfolding row_symbols
pass-requires c = token_left (taken 69 c.requires.due c.enter.ensures c.in-69.is)

pub pass-requires-in-70 : goal.pass-requires-in-70
unfolding row_symbols
pass-requires-in-70 c = token_left (taken 70 c.requires.due c.enter.ensures c.in-70.is)

pub unreachable-requires : goal.unreachable-requires
unreachable-requires c = no_other (69 ∷ 70 ∷ []) c.requires.due c.enter.ensures refl (c.in_default.in_default-own.rest.0.1, (c.in_default.in_default-own.rest.1, tt))
