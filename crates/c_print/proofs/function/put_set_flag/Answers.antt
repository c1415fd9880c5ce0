use Rattle.c_print.proofs.Printing.{◌▸◌}
use Rattle.c_print.proofs.function.put_set_flag.Goals as goal

pub returns : goal.returns
returns c =
    c.in_ok-put_template.ensures
    ▸ c.in_ok-put_cell.ensures
    ▸ c.in_ok-put_template-2.ensures
