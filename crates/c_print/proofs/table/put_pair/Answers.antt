use Rattle.c_print.proofs.Printing.{◌▸◌}
use Rattle.c_print.proofs.table.put_pair.Goals as goal

pub returns : goal.returns
returns c =
    c.in_ok-put_template.ensures
    ▸ c.in_ok-put_unsigned.ensures
    ▸ c.in_ok-put_template-2.ensures
    ▸ c.in_ok-put_second.ensures
    ▸ c.in_ok-put_word.ensures
