use Rattle.c_print.proofs.Printing.{◌▸◌}
use Rattle.c_print.proofs.descriptor.put_table_fields.Goals as goal

pub returns : goal.returns
returns c =
    c.in_ok-put_template.ensures
    ▸ c.in_ok-put_string.ensures
    ▸ c.in_ok-put_template-2.ensures
    ▸ c.in_ok-put_node_count.ensures
    ▸ c.in_ok-put_template-3.ensures
    ▸ c.in_ok-put_unsigned.ensures
    ▸ c.in_ok-put_template-4.ensures
    ▸ c.in_ok-put_indexed.ensures
    ▸ c.in_ok-put_template-5.ensures
    ▸ c.in_ok-put_entry_count.ensures
    ▸ c.in_ok-put_template-6.ensures
    ▸ c.in_ok-put_indexed-2.ensures
    ▸ c.in_ok-put_template-7.ensures
    ▸ c.in_ok-put_pair_count.ensures
    ▸ c.in_ok-put_template-8.ensures
    ▸ c.in_ok-put_indexed-3.ensures
