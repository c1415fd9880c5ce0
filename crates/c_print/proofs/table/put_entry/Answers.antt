use Rattle.c_tree.specs.Text.{entry_words}
use Rattle.c_print.proofs.Printing.{◌▸◌}
use Rattle.c_print.proofs.table.put_entry.Goals as goal

pub returns : goal.returns
unfolding entry_words
returns c =
    c.in_ok-put_template.ensures
    ▸ c.in_ok-put_unsigned.ensures
    ▸ c.in_ok-put_template-2.ensures
    ▸ c.in_ok-put_unsigned-2.ensures
    ▸ c.in_ok-put_template-3.ensures
    ▸ c.in_ok-put_react_offset.ensures
    ▸ c.in_ok-put_template-4.ensures
    ▸ c.in_ok-put_parts.ensures
    ▸ c.in_ok-put_word.ensures
