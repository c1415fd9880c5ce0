use Rattle.std.proofs.Common.{arith, refl, [], ◌∷◌}
use Rattle.va_build.specs.Reading.{row_symbols}
use Rattle.va_build.specs.SourceItems.{direction}
use Rattle.va_build.proofs.TakenRows.{read}
use Rattle.va_build.proofs.DueRows.{no_other, node_left, taken, token_left}
use Rattle.va_build.proofs.item_bodies.direction.Goals as goal

pub returns-in-49 : goal.returns-in-49
unfolding row_symbols
returns-in-49 c = read (λ at t. direction t) _ _ _ _ 49 _ c.enter.ensures c.in-49.is (grind arith) (grind arith) (grind arith) (grind arith)

pub returns-in-50 : goal.returns-in-50
unfolding row_symbols
returns-in-50 c = read (λ at t. direction t) _ _ _ _ 50 _ c.enter.ensures c.in-50.is (grind arith) (grind arith) (grind arith) (grind arith)

pub returns-in-51 : goal.returns-in-51
unfolding row_symbols
returns-in-51 c = read (λ at t. direction t) _ _ _ _ 51 _ c.enter.ensures c.in-51.is (grind arith) (grind arith) (grind arith) (grind arith)

pub enter-requires : goal.enter-requires
enter-requires c = node_left c.requires.due

pub pass-requires : goal.pass-requires
unfolding row_symbols
pass-requires c = token_left (taken 49 c.requires.due c.enter.ensures c.in-49.is)

pub pass-requires-in-50 : goal.pass-requires-in-50
unfolding row_symbols
pass-requires-in-50 c = token_left (taken 50 c.requires.due c.enter.ensures c.in-50.is)

pub pass-requires-in-51 : goal.pass-requires-in-51
unfolding row_symbols
pass-requires-in-51 c = token_left (taken 51 c.requires.due c.enter.ensures c.in-51.is)

pub unreachable-requires : goal.unreachable-requires
unreachable-requires c = no_other (49 ∷ 50 ∷ 51 ∷ []) c.requires.due c.enter.ensures refl (c.in_default.in_default-own.rest.0.0.1, (c.in_default.in_default-own.rest.0.1, (c.in_default.in_default-own.rest.1, tt)))
