use Rattle.c_print.proofs.Printing.{◌▸◌}
use Rattle.c_print.proofs.load.put_cell_factor.Goals as goal

pub returns : goal.returns
returns c =
    c.in_ok-put_template.ensures
    ▸ c.in_ok-put_field.ensures
