use Rattle.c_print.proofs.Printing.{◌▸◌}
use Rattle.c_print.proofs.load.put_react_target.Goals as goal

pub returns : goal.returns
returns c =
    c.in_ok-put_template.ensures
    ▸ c.in_ok-put_unsigned.ensures
    ▸ c.in_ok-put_word.ensures
