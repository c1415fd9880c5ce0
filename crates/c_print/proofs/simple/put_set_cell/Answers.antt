use Rattle.c_print.proofs.Printing.{◌▸◌}
use Rattle.c_print.proofs.simple.put_set_cell.Goals as goal

pub returns : goal.returns
returns c =
    c.in_ok-put_cell.ensures
    ▸ c.in_ok-put_word.ensures
    ▸ c.in_ok-put_atom.ensures
    ▸ c.in_ok-put_word-2.ensures
