use Rattle.c_print.proofs.Printing.{◌▸◌}
use Rattle.c_print.proofs.statement.put_atom.Goals as goal

pub returns-in_ok-put_template-in-Unknown-2 : goal.returns-in_ok-put_template-in-Unknown-2
returns-in_ok-put_template-in-Unknown-2 c =
    rw c.in-Unknown.is (c.in_ok-put_template-in-Unknown.ensures ▸ c.in_ok-put_unsigned-in-Unknown.ensures
    ▸ c.in_ok-put_template-in-Unknown-2.ensures)
