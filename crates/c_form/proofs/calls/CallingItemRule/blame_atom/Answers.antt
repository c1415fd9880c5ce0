use Rattle.c_form.proofs.Blaming.{blames_none}
use Rattle.c_form.proofs.calls.CallingItemRule.blame_atom.Goals as goal

pub returns : goal.returns
returns c = λ p k. blames_none _
