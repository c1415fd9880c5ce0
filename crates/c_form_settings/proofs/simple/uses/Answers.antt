use Rattle.c_form_settings.proofs.Using.{uses-is}
use Rattle.c_form_settings.proofs.simple.uses.Goals as goal

pub returns : goal.returns
returns c =
    uses-is c.args.least.now c.reads.new.least c.sets.new.least c.args.pass.now c.sets.new.pass c.args.statement.now
    c.in_ok-reads.ensures c.in_ok-sets.ensures.blames c.in_ok-sets.ensures.blocks c.in_ok-sets.ensures.told
