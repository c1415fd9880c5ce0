use Rattle.va_build.proofs.DueRows.{behind, one_due, passed, token_left}
use Rattle.va_build.proofs.statement_heads.read_condition.Goals as goal

pub pass-at-requires : goal.pass-at-requires
pass-at-requires c = token_left (c.requires.due.2)

pub pass-requires : goal.pass-requires
pass-requires c = token_left (passed (c.requires.due.2) c.pass-at.ensures)

pub expression-requires-clause-due : goal.expression-requires-clause-due
expression-requires-clause-due c = one_due (passed (passed (c.requires.due.2) c.pass-at.ensures) c.pass.ensures)

pub pass-requires-2 : goal.pass-requires-2
pass-requires-2 c = token_left (behind (passed (passed (c.requires.due.2) c.pass-at.ensures) c.pass.ensures) c.in_ok-value.ensures)
