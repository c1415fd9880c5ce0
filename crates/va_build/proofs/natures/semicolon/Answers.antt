use Rattle.std.proofs.Common.{arith, refl, [], ◌∷◌}
use Rattle.va_build.specs.Reading.{row_symbols}
use Rattle.va_build.proofs.TakenRows.{read}
use Rattle.va_build.proofs.DueRows.{no_other, node_left, taken, token_left}
use Rattle.va_build.proofs.natures.semicolon.Goals as goal

pub returns-in-18 : goal.returns-in-18
unfolding row_symbols
returns-in-18 c = read (λ _ _. tt) _ _ _ _ 18 _ c.enter.ensures c.in-18.is (grind arith) (grind arith) (grind arith) (grind arith)

pub returns-in-19 : goal.returns-in-19
unfolding row_symbols
returns-in-19 c = read (λ _ _. tt) _ _ _ _ 19 _ c.enter.ensures c.in-19.is (grind arith) (grind arith) (grind arith) (grind arith)

pub enter-requires : goal.enter-requires
enter-requires c = node_left c.requires.due

pub pass-requires : goal.pass-requires
unfolding row_symbols
pass-requires c = token_left (taken 18 c.requires.due c.enter.ensures c.in-18.is)

pub unreachable-requires : goal.unreachable-requires
unreachable-requires c = no_other (18 ∷ 19 ∷ []) c.requires.due c.enter.ensures refl (c.in_default.in_default-own.rest.0.1, (c.in_default.in_default-own.rest.1, tt))
