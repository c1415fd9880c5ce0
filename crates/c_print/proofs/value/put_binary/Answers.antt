use Rattle.c_print.proofs.Printing.{◌▸◌}
use Rattle.c_print.proofs.value.put_binary.Goals as goal

pub returns : goal.returns
returns c =
    c.in_ok-put_atom.ensures
    ▸ c.in_ok-put_operator.ensures
    ▸ c.in_ok-put_atom-2.ensures
