use Rattle.c_print.proofs.Printing.{◌▸◌}
use Rattle.c_print.proofs.value.put_call.Goals as goal

pub returns : goal.returns
returns c =
    c.in_ok-put_callee.ensures
    ▸ c.in_ok-put_word.ensures
    ▸ c.in_ok-put_atoms.ensures
    ▸ c.in_ok-put_word-2.ensures
