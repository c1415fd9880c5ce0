use Rattle.va_build.proofs.DueRows.{one_due, passed, passed_by, token_left}
use Rattle.va_build.proofs.statement_heads.read_assignment.Goals as goal

pub named-requires-clause-due : goal.named-requires-clause-due
named-requires-clause-due c = token_left (c.requires.due.1)

pub pass-requires : goal.pass-requires
pass-requires c = token_left (passed_by (c.requires.due.1) c.in_ok-target.ensures.passed c.in_ok-target.ensures.nodes)

pub expression-requires-clause-due : goal.expression-requires-clause-due
expression-requires-clause-due c = one_due (passed (passed_by (c.requires.due.1) c.in_ok-target.ensures.passed c.in_ok-target.ensures.nodes) c.pass.ensures)
