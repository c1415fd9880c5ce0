use Rattle.std.proofs.Common.{arith, refl, ◌∙◌}
use Rattle.va_build.specs.Reading.{row_symbols}
use Rattle.va_build.proofs.HeadRows.{one_left}
use Rattle.va_build.proofs.DueRows.{assignment_passed, behind, entered, node_left, one_due, passed, taken, token_left}
use Rattle.va_build.proofs.statement_heads.for_head.Goals as goal

pub returns-clause-left : goal.returns-clause-left
unfolding row_symbols
returns-clause-left c = one_left c.args.e.now _ _ _ _ 92 0 _ c.enter.ensures (entered c.enter.ensures ∙ c.requires.row) (grind arith) (grind arith) (grind arith) (grind arith)

pub enter-requires : goal.enter-requires
enter-requires c = node_left c.requires.due

pub pass-at-requires : goal.pass-at-requires
unfolding row_symbols
pass-at-requires c = token_left (taken 92 c.requires.due c.enter.ensures (entered c.enter.ensures ∙ c.requires.row))

pub pass-requires : goal.pass-requires
unfolding row_symbols
pass-requires c = token_left (passed (taken 92 c.requires.due c.enter.ensures (entered c.enter.ensures ∙ c.requires.row)) c.pass-at.ensures)

pub read_assignment-requires-clause-due : goal.read_assignment-requires-clause-due
unfolding row_symbols
read_assignment-requires-clause-due c = (_, passed (passed (taken 92 c.requires.due c.enter.ensures (entered c.enter.ensures ∙ c.requires.row)) c.pass-at.ensures) c.pass.ensures)

pub pass-requires-2 : goal.pass-requires-2
unfolding row_symbols
pass-requires-2 c = token_left (assignment_passed (passed (passed (taken 92 c.requires.due c.enter.ensures (entered c.enter.ensures ∙ c.requires.row)) c.pass-at.ensures) c.pass.ensures) c.in_ok-first.ensures)

pub expression-requires-clause-due : goal.expression-requires-clause-due
unfolding row_symbols
expression-requires-clause-due c = one_due (passed (assignment_passed (passed (passed (taken 92 c.requires.due c.enter.ensures (entered c.enter.ensures ∙ c.requires.row)) c.pass-at.ensures) c.pass.ensures) c.in_ok-first.ensures) c.pass-2.ensures)

pub pass-requires-3 : goal.pass-requires-3
unfolding row_symbols
pass-requires-3 c = token_left (behind (passed (assignment_passed (passed (passed (taken 92 c.requires.due c.enter.ensures (entered c.enter.ensures ∙ c.requires.row)) c.pass-at.ensures) c.pass.ensures) c.in_ok-first.ensures) c.pass-2.ensures) c.in_ok-test.ensures)

pub read_assignment-requires-2-clause-due : goal.read_assignment-requires-2-clause-due
unfolding row_symbols
read_assignment-requires-2-clause-due c = (_, passed (behind (passed (assignment_passed (passed (passed (taken 92 c.requires.due c.enter.ensures (entered c.enter.ensures ∙ c.requires.row)) c.pass-at.ensures) c.pass.ensures) c.in_ok-first.ensures) c.pass-2.ensures) c.in_ok-test.ensures) c.pass-3.ensures)

pub pass-requires-4 : goal.pass-requires-4
unfolding row_symbols
pass-requires-4 c = token_left (assignment_passed (passed (behind (passed (assignment_passed (passed (passed (taken 92 c.requires.due c.enter.ensures (entered c.enter.ensures ∙ c.requires.row)) c.pass-at.ensures) c.pass.ensures) c.in_ok-first.ensures) c.pass-2.ensures) c.in_ok-test.ensures) c.pass-3.ensures) c.in_ok-step.ensures)

pub returns-clause-due : goal.returns-clause-due
unfolding row_symbols
returns-clause-due c = passed (assignment_passed (passed (behind (passed (assignment_passed (passed (passed (taken 92 c.requires.due c.enter.ensures (entered c.enter.ensures ∙ c.requires.row)) c.pass-at.ensures) c.pass.ensures) c.in_ok-first.ensures) c.pass-2.ensures) c.in_ok-test.ensures) c.pass-3.ensures) c.in_ok-step.ensures) c.pass-4.ensures
