use Rattle.std.proofs.Common.{ap}
use Rattle.c_tree.specs.rules.Bodies.{RawBody}
use Rattle.c_raw.specs.Blocks.{simple_view}
use Rattle.c_form.proofs.Blaming.{blames_as}
use Rattle.c_form_reach.specs.Reach.{simple_out}
use Rattle.c_form_reach.proofs.spoken.SpeechItemRule.blame_simple.Goals as goal

pub returns : goal.returns
returns c = λ b e. blames_as c.simple_out.ensures (ap (λ x. simple_out (RawBody.kind x) (simple_view c.args.statement.now)) e)
