use Rattle.std.proofs.Common.{arith, refl, [], ◌∷◌}
use Rattle.va_build.specs.Reading.{row_symbols}
use Rattle.va_build.specs.SourceItems.{is_closed}
use Rattle.va_build.proofs.TakenRows.{read}
use Rattle.va_build.proofs.DueRows.{no_other, node_left, taken, token_left}
use Rattle.va_build.proofs.ranges.is_lower_closed.Goals as goal

pub returns-in-67 : goal.returns-in-67
unfolding row_symbols
returns-in-67 c = read (λ at t. is_closed t) _ _ _ _ 67 _ c.enter.ensures c.in-67.is (grind arith) (grind arith) (grind arith) (grind arith)

pub returns-in-68 : goal.returns-in-68
unfolding row_symbols
returns-in-68 c = read (λ at t. is_closed t) _ _ _ _ 68 _ c.enter.ensures c.in-68.is (grind arith) (grind arith) (grind arith) (grind arith)

pub enter-requires : goal.enter-requires
enter-requires c = node_left c.requires.due

pub pass-requires : goal.pass-requires
unfolding row_symbols
pass-requires c = token_left (taken 67 c.requires.due c.enter.ensures c.in-67.is)

pub pass-requires-in-68 : goal.pass-requires-in-68
unfolding row_symbols
pass-requires-in-68 c = token_left (taken 68 c.requires.due c.enter.ensures c.in-68.is)

pub unreachable-requires : goal.unreachable-requires
unreachable-requires c = no_other (67 ∷ 68 ∷ []) c.requires.due c.enter.ensures refl (c.in_default.in_default-own.rest.0.1, (c.in_default.in_default-own.rest.1, tt))
