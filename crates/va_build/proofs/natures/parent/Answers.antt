use Rattle.std.proofs.Common.{arith, refl, [], ◌∷◌}
use Rattle.va_build.specs.Reading.{row_symbols}
use Rattle.va_build.specs.SourceOf.{parent}
use Rattle.va_build.proofs.TakenRows.{read}
use Rattle.va_build.proofs.DueRows.{no_other, node_left, passed, taken, token_left}
use Rattle.va_build.proofs.natures.parent.Goals as goal

pub returns-in_ok-name-in-16 : goal.returns-in_ok-name-in-16
unfolding row_symbols
returns-in_ok-name-in-16 c = read (parent c.args.e.now) _ _ _ _ 16 _ c.enter.ensures c.in-16.is (grind arith) (grind arith) (grind arith) (grind arith)

pub returns-in-17 : goal.returns-in-17
unfolding row_symbols
returns-in-17 c = read (parent c.args.e.now) _ _ _ _ 17 _ c.enter.ensures c.in-17.is (grind arith) (grind arith) (grind arith) (grind arith)

pub enter-requires : goal.enter-requires
enter-requires c = node_left c.requires.due

pub pass-requires : goal.pass-requires
unfolding row_symbols
pass-requires c = token_left (taken 16 c.requires.due c.enter.ensures c.in-16.is)

pub unreachable-requires : goal.unreachable-requires
unreachable-requires c = no_other (16 ∷ 17 ∷ []) c.requires.due c.enter.ensures refl (c.in_default.in_default-own.rest.0.1, (c.in_default.in_default-own.rest.1, tt))

pub named-requires-clause-due : goal.named-requires-clause-due
unfolding row_symbols
named-requires-clause-due c = token_left (passed (taken 16 c.requires.due c.enter.ensures c.in-16.is) c.pass.ensures)
