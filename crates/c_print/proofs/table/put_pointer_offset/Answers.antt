use Rattle.c_print.proofs.Printing.{◌▸◌}
use Rattle.c_print.proofs.table.put_pointer_offset.Goals as goal

pub returns : goal.returns
returns c =
    c.in_ok-put_template.ensures
    ▸ c.in_ok-put_indexed.ensures
    ▸ c.in_ok-put_template-2.ensures
    ▸ c.in_ok-put_count.ensures
    ▸ c.in_ok-put_template-3.ensures
