use Rattle.std.proofs.Common.{arith, refl, [], ◌∷◌}
use Rattle.va_build.specs.Reading.{row_symbols}
use Rattle.va_build.specs.SourceOf.{binding}
use Rattle.va_build.proofs.TakenRows.{read}
use Rattle.va_build.proofs.DueRows.{behind, no_other, node_left, one_due, passed, passed_by, taken, token_left}
use Rattle.va_build.proofs.disciplines.binding.Goals as goal

pub returns-in_ok-nature-in-28 : goal.returns-in_ok-nature-in-28
unfolding row_symbols
returns-in_ok-nature-in-28 c = read (binding c.args.e.now c.args.start c.args.of) _ _ _ _ 28 _ c.enter.ensures c.in-28.is (grind arith) (grind arith) (grind arith) (grind arith)

pub returns-in_ok-value-in-29 : goal.returns-in_ok-value-in-29
unfolding row_symbols
returns-in_ok-value-in-29 c = read (binding c.args.e.now c.args.start c.args.of) _ _ _ _ 29 _ c.enter.ensures c.in-29.is (grind arith) (grind arith) (grind arith) (grind arith)

pub enter-requires : goal.enter-requires
enter-requires c = node_left c.requires.due

pub pass-requires : goal.pass-requires
unfolding row_symbols
pass-requires c = token_left (passed_by (taken 28 c.requires.due c.enter.ensures c.in-28.is) c.in_ok-nature-in-28.ensures.passed c.in_ok-nature-in-28.ensures.nodes)

pub pass-requires-in-29 : goal.pass-requires-in-29
unfolding row_symbols
pass-requires-in-29 c = token_left (taken 29 c.requires.due c.enter.ensures c.in-29.is)

pub pass-requires-in-29-2 : goal.pass-requires-in-29-2
unfolding row_symbols
pass-requires-in-29-2 c = token_left (passed_by (passed (taken 29 c.requires.due c.enter.ensures c.in-29.is) c.pass-in-29.ensures) c.in_ok-name-in-29.ensures.passed c.in_ok-name-in-29.ensures.nodes)

pub pass-requires-in-29-3 : goal.pass-requires-in-29-3
unfolding row_symbols
pass-requires-in-29-3 c = token_left (behind (passed (passed_by (passed (taken 29 c.requires.due c.enter.ensures c.in-29.is) c.pass-in-29.ensures) c.in_ok-name-in-29.ensures.passed c.in_ok-name-in-29.ensures.nodes) c.pass-in-29-2.ensures) c.in_ok-value-in-29.ensures)

pub unreachable-requires : goal.unreachable-requires
unreachable-requires c = no_other (28 ∷ 29 ∷ []) c.requires.due c.enter.ensures refl (c.in_default.in_default-own.rest.0.1, (c.in_default.in_default-own.rest.1, tt))

pub named-requires-clause-due : goal.named-requires-clause-due
unfolding row_symbols
named-requires-clause-due c = token_left (taken 28 c.requires.due c.enter.ensures c.in-28.is)

pub named-requires-in-29-clause-due : goal.named-requires-in-29-clause-due
unfolding row_symbols
named-requires-in-29-clause-due c = token_left (passed (taken 29 c.requires.due c.enter.ensures c.in-29.is) c.pass-in-29.ensures)

pub argument-requires-clause-due : goal.argument-requires-clause-due
unfolding row_symbols
argument-requires-clause-due c = one_due (passed (passed_by (passed (taken 29 c.requires.due c.enter.ensures c.in-29.is) c.pass-in-29.ensures) c.in_ok-name-in-29.ensures.passed c.in_ok-name-in-29.ensures.nodes) c.pass-in-29-2.ensures)
