use Rattle.c_tree.specs.Text.{node_words}
use Rattle.c_print.proofs.Printing.{◌▸◌}
use Rattle.c_print.proofs.table.put_node.Goals as goal

pub returns : goal.returns
unfolding node_words
returns c =
    c.in_ok-put_template.ensures
    ▸ c.in_ok-put_string.ensures
    ▸ c.in_ok-put_template-2.ensures
    ▸ c.in_ok-put_string-2.ensures
    ▸ c.in_ok-put_template-3.ensures
    ▸ c.in_ok-put_string-3.ensures
    ▸ c.in_ok-put_template-4.ensures
    ▸ c.in_ok-put_row_offset.ensures
    ▸ c.in_ok-put_template-5.ensures
    ▸ c.in_ok-put_row_offset-2.ensures
    ▸ c.in_ok-put_template-6.ensures
    ▸ c.in_ok-put_integer.ensures
    ▸ c.in_ok-put_word.ensures
