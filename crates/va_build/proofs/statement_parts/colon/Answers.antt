use Rattle.std.proofs.Common.{arith, refl, ◌∷◌, []}
use Rattle.va_build.specs.Reading.{row_symbols}
use Rattle.va_build.proofs.TakenRows.{read}
use Rattle.va_build.proofs.DueRows.{no_other, node_left, taken, token_left}
use Rattle.va_build.proofs.statement_parts.colon.Goals as goal

pub returns-in-113 : goal.returns-in-113
unfolding row_symbols
returns-in-113 c = read (λ _ _. tt) _ _ _ _ 113 _ c.enter.ensures c.in-113.is (grind arith) (grind arith) (grind arith) (grind arith)

pub returns-in-114 : goal.returns-in-114
unfolding row_symbols
returns-in-114 c = read (λ _ _. tt) _ _ _ _ 114 _ c.enter.ensures c.in-114.is (grind arith) (grind arith) (grind arith) (grind arith)

pub enter-requires : goal.enter-requires
enter-requires c = node_left c.requires.due

pub pass-requires : goal.pass-requires
unfolding row_symbols
pass-requires c = token_left (taken 113 c.requires.due c.enter.ensures c.in-113.is)

pub unreachable-requires : goal.unreachable-requires
unreachable-requires c = no_other (113 ∷ 114 ∷ []) c.requires.due c.enter.ensures refl (c.in_default.in_default-own.rest.0.1, (c.in_default.in_default-own.rest.1, tt))
