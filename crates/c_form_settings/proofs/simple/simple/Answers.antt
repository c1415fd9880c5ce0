use Rattle.c_form_settings.proofs.Declaring.{steps-simple}
use Rattle.c_form_settings.proofs.simple.simple.Goals as goal

pub returns : goal.returns
returns c = λ h.
    steps-simple c.args.least.now c.uses.new.least c.args.pass.now c.uses.new.pass c.declares.new.pass c.args.statement.now
    (c.in_ok-uses.ensures h) (c.in_ok-declares.ensures (c.in_ok-uses.ensures h).holds)
