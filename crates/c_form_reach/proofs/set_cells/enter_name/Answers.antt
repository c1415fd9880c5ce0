use Rattle.c_form_reach.proofs.Setting.{name-entered}
use Rattle.c_form_reach.proofs.set_cells.enter_name.Goals as goal

pub returns-clause-after : goal.returns-clause-after
returns-clause-after c = name-entered c.args.names.now c.insert.new.self c.args.name.items c.in_ok-fresh.ensures.updates
