use Rattle.c_tree.specs.Text.{end_words}
use Rattle.c_print.proofs.Printing.{◌▸◌}
use Rattle.c_print.proofs.descriptor.put_end.Goals as goal

pub returns : goal.returns
unfolding end_words
returns c =
    c.in_ok-put_template.ensures
    ▸ c.in_ok-put_template-2.ensures
    ▸ c.in_ok-put_count.ensures
    ▸ c.in_ok-put_word.ensures
    ▸ c.in_ok-put_template-3.ensures
    ▸ c.in_ok-put_descriptor_table.ensures
