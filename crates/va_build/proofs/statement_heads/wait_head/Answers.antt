use Rattle.std.proofs.Common.{arith, refl, ◌∙◌}
use Rattle.va_build.specs.Reading.{row_symbols}
use Rattle.va_build.proofs.HeadRows.{one_left}
use Rattle.va_build.proofs.DueRows.{behind, entered, node_left, one_due, passed, taken, token_left}
use Rattle.va_build.proofs.statement_heads.wait_head.Goals as goal

pub returns-clause-left : goal.returns-clause-left
unfolding row_symbols
returns-clause-left c = one_left c.args.e.now _ _ _ _ 95 0 _ c.enter.ensures (entered c.enter.ensures ∙ c.requires.row) (grind arith) (grind arith) (grind arith) (grind arith)

pub enter-requires : goal.enter-requires
enter-requires c = node_left c.requires.due

pub pass-at-requires : goal.pass-at-requires
unfolding row_symbols
pass-at-requires c = token_left (taken 95 c.requires.due c.enter.ensures (entered c.enter.ensures ∙ c.requires.row))

pub pass-requires : goal.pass-requires
unfolding row_symbols
pass-requires c = token_left (passed (taken 95 c.requires.due c.enter.ensures (entered c.enter.ensures ∙ c.requires.row)) c.pass-at.ensures)

pub event-requires-clause-due : goal.event-requires-clause-due
unfolding row_symbols
event-requires-clause-due c = one_due (passed (passed (taken 95 c.requires.due c.enter.ensures (entered c.enter.ensures ∙ c.requires.row)) c.pass-at.ensures) c.pass.ensures)

pub pass-requires-2 : goal.pass-requires-2
unfolding row_symbols
pass-requires-2 c = token_left (behind (passed (passed (taken 95 c.requires.due c.enter.ensures (entered c.enter.ensures ∙ c.requires.row)) c.pass-at.ensures) c.pass.ensures) c.in_ok-head.ensures.analyses)

pub returns-clause-due : goal.returns-clause-due
unfolding row_symbols
returns-clause-due c = passed (behind (passed (passed (taken 95 c.requires.due c.enter.ensures (entered c.enter.ensures ∙ c.requires.row)) c.pass-at.ensures) c.pass.ensures) c.in_ok-head.ensures.analyses) c.pass-2.ensures
