use Rattle.std.proofs.Common.{ap, ◌∙◌}
use Rattle.c_raw.specs.Blocks.{simple_view}
use Rattle.c_form.specs.Bodies.{body_view}
use Rattle.c_form.specs.Parts.{calls_of_simple}
use Rattle.c_form.proofs.Blaming.{blames_as}
use Rattle.c_form.proofs.calls.CallingItemRule.blame_simple.Goals as goal

pub returns : goal.returns
returns c = λ p k.
    blames_as c.simple_calls.ensures
    (ap (λ m. calls_of_simple m (body_view c.args.self.now.body) (simple_view c.args.statement.now)) k.0
    ∙ ap (λ b. calls_of_simple p.0 b (simple_view c.args.statement.now)) k.1)
