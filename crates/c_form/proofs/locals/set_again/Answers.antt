use Rattle.c_form.proofs.Blaming.{◌▸◌, blames_none}
use Rattle.c_form.proofs.locals.set_again.Goals as goal

pub returns-in-Assign : goal.returns-in-Assign
returns-in-Assign c = λ known k. rw (c.in-Assign.is) (c.used.ensures known k ▸ blames_none _)
