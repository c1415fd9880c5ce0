use Rattle.c_print.proofs.Printing.{◌▸◌, prints_none}
use Rattle.c_print.proofs.load.put_load_fields.Goals as goal

pub returns : goal.returns
returns c =
    c.in_ok-put_load_field.ensures ▸ (c.in_ok-put_load_field-2.ensures ▸ (c.in_ok-put_load_field-3.ensures ▸ (c.in_ok-put_load_field-4.ensures ▸ (c.in_ok-put_load_field-5.ensures ▸ (c.in_ok-put_load_field-6.ensures ▸ (c.in_ok-put_load_field-7.ensures ▸ (prints_none _)))))))
