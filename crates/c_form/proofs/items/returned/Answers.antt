use Rattle.c_form.proofs.Blaming.{◌▸◌, blames_none}
use Rattle.c_form.proofs.items.returned.Goals as goal

pub returns-in_ok-blame_atom : goal.returns-in_ok-blame_atom
returns-in_ok-blame_atom g c = λ p k. rw (c.in-Function.is) (c.in_ok-blame_atom.ensures p k ▸ blames_none _)
