use Rattle.c_form.proofs.Blaming.{least_is}
use Rattle.c_form.proofs.fields.fields_fault.Goals as goal

pub returns : goal.returns
returns c = rw (← c.as_list.ensures) (least_is c.in_ok-modules.ensures)
