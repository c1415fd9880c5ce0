use Rattle.std.proofs.Common.{arith, refl, [], ◌∷◌}
use Rattle.va_build.specs.Reading.{row_symbols}
use Rattle.va_build.specs.SourceItems.{optional_type}
use Rattle.va_build.proofs.TakenRows.{read}
use Rattle.va_build.proofs.DueRows.{no_other, node_left, taken, token_left}
use Rattle.va_build.proofs.parameters.optional_type.Goals as goal

pub returns-in-56 : goal.returns-in-56
unfolding row_symbols
returns-in-56 c = read (λ at t. optional_type t) _ _ _ _ 56 _ c.enter.ensures c.in-56.is (grind arith) (grind arith) (grind arith) (grind arith)

pub returns-in-57 : goal.returns-in-57
unfolding row_symbols
returns-in-57 c = read (λ at t. optional_type t) _ _ _ _ 57 _ c.enter.ensures c.in-57.is (grind arith) (grind arith) (grind arith) (grind arith)

pub returns-in-58 : goal.returns-in-58
unfolding row_symbols
returns-in-58 c = read (λ at t. optional_type t) _ _ _ _ 58 _ c.enter.ensures c.in-58.is (grind arith) (grind arith) (grind arith) (grind arith)

pub enter-requires : goal.enter-requires
enter-requires c = node_left c.requires.due

pub pass-requires : goal.pass-requires
unfolding row_symbols
pass-requires c = token_left (taken 56 c.requires.due c.enter.ensures c.in-56.is)

pub pass-requires-in-57 : goal.pass-requires-in-57
unfolding row_symbols
pass-requires-in-57 c = token_left (taken 57 c.requires.due c.enter.ensures c.in-57.is)

pub unreachable-requires : goal.unreachable-requires
unreachable-requires c = no_other (56 ∷ 57 ∷ 58 ∷ []) c.requires.due c.enter.ensures refl (c.in_default.in_default-own.rest.0.0.1, (c.in_default.in_default-own.rest.0.1, (c.in_default.in_default-own.rest.1, tt)))
