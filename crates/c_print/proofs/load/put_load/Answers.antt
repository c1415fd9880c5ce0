use Rattle.c_print.proofs.Printing.{◌▸◌}
use Rattle.c_print.proofs.load.put_load.Goals as goal

pub returns : goal.returns
returns c =
    rw (← c.as_list.ensures) (c.in_ok-put_target.ensures
    ▸ c.in_ok-put_sign.ensures
    ▸ c.in_ok-put_factor.ensures
    ▸ c.in_ok-put_more_factors.ensures
    ▸ c.in_ok-put_word.ensures)
