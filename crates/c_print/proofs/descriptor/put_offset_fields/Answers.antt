use Rattle.c_print.proofs.Printing.{◌▸◌}
use Rattle.c_print.proofs.descriptor.put_offset_fields.Goals as goal

pub returns : goal.returns
returns c =
    c.in_ok-put_template.ensures
    ▸ c.in_ok-put_offset.ensures
    ▸ c.in_ok-put_template-2.ensures
    ▸ c.in_ok-put_offset-2.ensures
    ▸ c.in_ok-put_template-3.ensures
    ▸ c.in_ok-put_indexed.ensures
    ▸ c.in_ok-put_template-4.ensures
    ▸ c.in_ok-put_indexed-2.ensures
    ▸ c.in_ok-put_word.ensures
