use Rattle.c_form.proofs.Blaming.{◌▸◌}
use Rattle.c_form.proofs.ranges.load.Goals as goal

pub returns : goal.returns
returns c = rw (← c.as_list.ensures) (c.target.ensures ▸ (c.factor.ensures ▸ c.factors.ensures))
