use Rattle.c_form.proofs.Blaming.{◌▸◌, blames_none}
use Rattle.c_form.proofs.fields.atom.Goals as goal

pub returns-in_ok-cell_missing : goal.returns-in_ok-cell_missing
returns-in_ok-cell_missing c = λ m k. rw (c.in-Cell.is) (c.in_ok-cell_missing.ensures m k ▸ blames_none _)
