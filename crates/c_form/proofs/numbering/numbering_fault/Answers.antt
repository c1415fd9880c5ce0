use Rattle.c_form.proofs.Blaming.{◌▸◌, least_is}
use Rattle.c_form.proofs.numbering.numbering_fault.Goals as goal

pub returns : goal.returns
returns c = rw (← c.as_list.ensures, ← c.as_list-2.ensures) (least_is (c.modules.ensures ▸ c.descriptors.ensures))
