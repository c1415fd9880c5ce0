use Rattle.c_print.proofs.Printing.{◌▸◌}
use Rattle.c_print.proofs.descriptor.put_parameter_fields.Goals as goal

pub returns : goal.returns
returns c =
    c.in_ok-put_template.ensures
    ▸ c.in_ok-put_offset.ensures
    ▸ c.in_ok-put_template-2.ensures
    ▸ c.in_ok-put_parameter_count.ensures
    ▸ c.in_ok-put_template-3.ensures
    ▸ c.in_ok-put_instance_count.ensures
    ▸ c.in_ok-put_template-4.ensures
    ▸ c.in_ok-put_opvar_count.ensures
    ▸ c.in_ok-put_template-5.ensures
    ▸ c.in_ok-put_indexed.ensures
