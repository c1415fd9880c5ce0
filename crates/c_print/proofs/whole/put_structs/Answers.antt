use Rattle.c_tree.specs.Text.{structs_words}
use Rattle.c_print.proofs.Printing.{◌▸◌}
use Rattle.c_print.proofs.whole.put_structs.Goals as goal

pub returns : goal.returns
unfolding structs_words
returns c =
    rw (← c.as_list.ensures, ← c.as_list-2.ensures) (c.in_ok-put_template.ensures
    ▸ c.in_ok-put_struct_fields.ensures
    ▸ c.in_ok-put_word.ensures
    ▸ c.in_ok-put_indexed.ensures
    ▸ c.in_ok-put_word-2.ensures
    ▸ c.in_ok-put_template-2.ensures
    ▸ c.in_ok-put_node_array.ensures
    ▸ c.in_ok-put_template-3.ensures
    ▸ c.in_ok-put_entry_array.ensures
    ▸ c.in_ok-put_template-4.ensures
    ▸ c.in_ok-put_entry_array-2.ensures
    ▸ c.in_ok-put_template-5.ensures
    ▸ c.in_ok-put_collapse_array.ensures
    ▸ c.in_ok-put_template-6.ensures
    ▸ c.in_ok-put_struct_fields-2.ensures
    ▸ c.in_ok-put_word-3.ensures
    ▸ c.in_ok-put_indexed-2.ensures
    ▸ c.in_ok-put_word-4.ensures)
