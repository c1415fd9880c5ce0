use Rattle.c_print.proofs.Printing.{◌▸◌}
use Rattle.c_print.proofs.table.put_row_offset.Goals as goal

pub returns : goal.returns
returns c =
    c.in_ok-put_template.ensures
    ▸ c.in_ok-put_indexed.ensures
    ▸ c.in_ok-put_word.ensures
    ▸ c.in_ok-put_indexed-2.ensures
    ▸ c.in_ok-put_word-2.ensures
