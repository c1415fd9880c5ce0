use Rattle.c_tree.specs.Text.{entry_words}
use Rattle.c_print.proofs.Printing.{◌▸◌}
use Rattle.c_print.proofs.table.put_entry_table.Goals as goal

pub returns : goal.returns
unfolding entry_words
returns c =
    c.in_ok-put_entries.ensures
    ▸ c.in_ok-put_template.ensures
