use Rattle.c_form.proofs.Blaming.{◌▸◌, blames_none}
use Rattle.c_form.proofs.locals.atom_used.Goals as goal

pub returns-in-Local : goal.returns-in-Local
returns-in-Local c = λ known k. rw (c.in-Local.is) (c.used.ensures known k ▸ blames_none _)
