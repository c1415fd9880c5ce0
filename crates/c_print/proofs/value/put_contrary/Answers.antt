use Rattle.c_print.proofs.Printing.{◌▸◌}
use Rattle.c_print.proofs.value.put_contrary.Goals as goal

pub returns : goal.returns
returns c =
    c.in_ok-put_word.ensures
    ▸ c.in_ok-put_atom.ensures
