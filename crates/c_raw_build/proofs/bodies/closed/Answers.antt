use Rattle.c_raw_build.proofs.Nesting.{closed_block, closed_body}
use Rattle.c_raw_build.proofs.bodies.closed.Goals as goal

pub returns-clause-block : goal.returns-clause-block
returns-clause-block c = closed_block _ _ _ c.in_ok-push.ensures.items

pub returns-clause-body : goal.returns-clause-body
returns-clause-body c = closed_body _ _ _ c.in_ok-push.ensures.items
