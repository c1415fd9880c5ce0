use Rattle.c_print.proofs.Printing.{◌▸◌}
use Rattle.c_print.proofs.whole.put_struct_field.Goals as goal

pub returns : goal.returns
returns c =
    rw (← c.field_type.ensures) (c.in_ok-put_type.ensures
    ▸ c.in_ok-put_name.ensures
    ▸ c.in_ok-put_word.ensures)
