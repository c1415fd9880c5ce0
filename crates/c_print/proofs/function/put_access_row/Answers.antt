use Rattle.c_print.proofs.Printing.{◌▸◌}
use Rattle.c_print.proofs.function.put_access_row.Goals as goal

pub returns : goal.returns
returns c =
    c.in_ok-put_template.ensures
    ▸ c.in_ok-put_unsigned.ensures
    ▸ c.in_ok-put_instance_test.ensures
    ▸ c.in_ok-put_template-2.ensures
    ▸ c.in_ok-put_flag.ensures
    ▸ c.in_ok-put_template-3.ensures
    ▸ c.in_ok-put_cell.ensures
    ▸ c.in_ok-put_template-4.ensures
