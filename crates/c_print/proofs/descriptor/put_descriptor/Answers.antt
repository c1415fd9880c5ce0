use Rattle.c_tree.specs.Text.{descriptor_words}
use Rattle.c_print.proofs.Printing.{◌▸◌}
use Rattle.c_print.proofs.descriptor.put_descriptor.Goals as goal

pub returns : goal.returns
unfolding descriptor_words
returns c =
    c.in_ok-put_table_fields.ensures
    ▸ c.in_ok-put_parameter_fields.ensures
    ▸ c.in_ok-put_offset_fields.ensures
    ▸ c.in_ok-put_function_fields.ensures
    ▸ c.in_ok-put_word.ensures
