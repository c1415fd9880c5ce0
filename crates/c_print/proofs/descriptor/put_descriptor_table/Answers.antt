use Rattle.c_tree.specs.Text.{descriptor_words}
use Rattle.c_print.proofs.Printing.{◌▸◌}
use Rattle.c_print.proofs.descriptor.put_descriptor_table.Goals as goal

pub returns : goal.returns
unfolding descriptor_words
returns c =
    c.in_ok-put_descriptors.ensures
    ▸ c.in_ok-put_template.ensures
