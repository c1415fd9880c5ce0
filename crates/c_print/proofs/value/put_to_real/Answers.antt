use Rattle.c_print.proofs.Printing.{◌▸◌}
use Rattle.c_print.proofs.value.put_to_real.Goals as goal

pub returns : goal.returns
returns c =
    c.in_ok-put_template.ensures
    ▸ c.in_ok-put_atom.ensures
