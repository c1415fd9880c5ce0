use Rattle.c_form.proofs.Blaming.{◌▸◌}
use Rattle.c_form.proofs.numbering.one_module.Goals as goal

pub returns : goal.returns
returns c = rw (← c.as_list.ensures, ← c.as_list-2.ensures) (c.numbers.ensures ▸ c.functions.ensures)
