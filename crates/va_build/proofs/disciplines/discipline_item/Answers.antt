use Rattle.std.proofs.Common.{arith, refl, [], ◌∷◌}
use Rattle.va_build.specs.Reading.{row_symbols}
use Rattle.va_build.specs.SourceOf.{discipline_item}
use Rattle.va_build.proofs.TakenRows.{read}
use Rattle.va_build.proofs.DueRows.{no_other, node_left, one_due, passed, passed_by, taken, token_left}
use Rattle.va_build.proofs.disciplines.discipline_item.Goals as goal

pub returns-in_ok-value-in-25 : goal.returns-in_ok-value-in-25
unfolding row_symbols
returns-in_ok-value-in-25 c = read (discipline_item c.args.e.now) _ _ _ _ 25 _ c.enter.ensures c.in-25.is (grind arith) (grind arith) (grind arith) (grind arith)

pub returns-in_ok-value-in-26 : goal.returns-in_ok-value-in-26
unfolding row_symbols
returns-in_ok-value-in-26 c = read (discipline_item c.args.e.now) _ _ _ _ 26 _ c.enter.ensures c.in-26.is (grind arith) (grind arith) (grind arith) (grind arith)

pub returns-in_ok-name-in-27 : goal.returns-in_ok-name-in-27
unfolding row_symbols
returns-in_ok-name-in-27 c = read (discipline_item c.args.e.now) _ _ _ _ 27 _ c.enter.ensures c.in-27.is (grind arith) (grind arith) (grind arith) (grind arith)

pub enter-requires : goal.enter-requires
enter-requires c = node_left c.requires.due

pub pass-start-requires : goal.pass-start-requires
unfolding row_symbols
pass-start-requires c = token_left (taken 25 c.requires.due c.enter.ensures c.in-25.is)

pub binding-requires-clause-due : goal.binding-requires-clause-due
unfolding row_symbols
binding-requires-clause-due c = one_due (passed (taken 25 c.requires.due c.enter.ensures c.in-25.is) c.pass-start.ensures)

pub pass-start-requires-in-26 : goal.pass-start-requires-in-26
unfolding row_symbols
pass-start-requires-in-26 c = token_left (taken 26 c.requires.due c.enter.ensures c.in-26.is)

pub binding-requires-in-26-clause-due : goal.binding-requires-in-26-clause-due
unfolding row_symbols
binding-requires-in-26-clause-due c = one_due (passed (taken 26 c.requires.due c.enter.ensures c.in-26.is) c.pass-start-in-26.ensures)

pub pass-at-requires : goal.pass-at-requires
unfolding row_symbols
pass-at-requires c = token_left (taken 27 c.requires.due c.enter.ensures c.in-27.is)

pub pass-requires : goal.pass-requires
unfolding row_symbols
pass-requires c = token_left (passed_by (passed (taken 27 c.requires.due c.enter.ensures c.in-27.is) c.pass-at.ensures) c.in_ok-name-in-27.ensures.passed c.in_ok-name-in-27.ensures.nodes)

pub unreachable-requires : goal.unreachable-requires
unreachable-requires c = no_other (25 ∷ 26 ∷ 27 ∷ []) c.requires.due c.enter.ensures refl (c.in_default.in_default-own.rest.0.0.1, (c.in_default.in_default-own.rest.0.1, (c.in_default.in_default-own.rest.1, tt)))

pub named-requires-clause-due : goal.named-requires-clause-due
unfolding row_symbols
named-requires-clause-due c = token_left (passed (taken 27 c.requires.due c.enter.ensures c.in-27.is) c.pass-at.ensures)
