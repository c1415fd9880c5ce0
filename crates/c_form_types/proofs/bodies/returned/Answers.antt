use Rattle.c_form.proofs.Blaming.{◌▸◌, blames_none}
use Rattle.c_form_types.proofs.bodies.returned.Goals as goal

pub returns-in_ok-wanted : goal.returns-in_ok-wanted
returns-in_ok-wanted c = λ p k. rw (c.in-Function.is) (c.in_ok-wanted.ensures p k ▸ blames_none _)
