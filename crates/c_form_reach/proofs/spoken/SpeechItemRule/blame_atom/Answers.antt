use Rattle.std.proofs.Common.{ap}
use Rattle.c_tree.specs.rules.Bodies.{RawBody}
use Rattle.c_raw.specs.Blocks.{at_view}
use Rattle.c_form.proofs.Blaming.{blames_as}
use Rattle.c_form_reach.specs.Reach.{atom_out}
use Rattle.c_form_reach.proofs.spoken.SpeechItemRule.blame_atom.Goals as goal

pub returns : goal.returns
returns c = λ b e. blames_as c.atom_out.ensures (ap (λ x. atom_out (RawBody.kind x) (at_view c.args.atom)) e)
