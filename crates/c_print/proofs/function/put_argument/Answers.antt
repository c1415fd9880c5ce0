use Rattle.c_print.proofs.Printing.{◌▸◌}
use Rattle.c_print.proofs.function.put_argument.Goals as goal

pub returns : goal.returns
returns c =
    c.in_ok-put_type.ensures
    ▸ c.in_ok-put_numbered.ensures
