use Rattle.c_tree.specs.Text.{tables_words}
use Rattle.c_print.proofs.Printing.{◌▸◌}
use Rattle.c_print.proofs.table.put_tables.Goals as goal

pub returns : goal.returns
unfolding tables_words
returns c =
    rw (← c.as_list.ensures, ← c.as_list-2.ensures, ← c.as_list-3.ensures, ← c.as_list-4.ensures) (c.in_ok-put_word.ensures
    ▸ c.in_ok-put_indexed.ensures
    ▸ c.in_ok-put_template.ensures
    ▸ c.in_ok-put_node_table.ensures
    ▸ c.in_ok-put_word-2.ensures
    ▸ c.in_ok-put_indexed-2.ensures
    ▸ c.in_ok-put_template-2.ensures
    ▸ c.in_ok-put_entry_table.ensures
    ▸ c.in_ok-put_word-3.ensures
    ▸ c.in_ok-put_indexed-3.ensures
    ▸ c.in_ok-put_template-3.ensures
    ▸ c.in_ok-put_pair_table.ensures
    ▸ c.in_ok-put_word-4.ensures
    ▸ c.in_ok-put_indexed-4.ensures
    ▸ c.in_ok-put_template-4.ensures
    ▸ c.in_ok-put_parameter_table.ensures)
