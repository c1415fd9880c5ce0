use Rattle.c_print.proofs.Printing.{◌▸◌}
use Rattle.c_print.proofs.load.put_load_field.Goals as goal

pub returns : goal.returns
returns c =
    c.in_ok-put_word.ensures
    ▸ c.in_ok-put_load_field_name.ensures
    ▸ c.in_ok-put_word-2.ensures
    ▸ c.in_ok-put_load_name.ensures
