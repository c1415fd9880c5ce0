use Rattle.c_tree.specs.Text.{access_words}
use Rattle.c_print.proofs.Printing.{◌▸◌}
use Rattle.c_print.proofs.function.put_access.Goals as goal

pub returns : goal.returns
unfolding access_words
returns c =
    rw (← c.as_list.ensures) (c.in_ok-put_template.ensures
    ▸ c.in_ok-put_indexed.ensures
    ▸ c.in_ok-put_template-2.ensures
    ▸ c.in_ok-put_instance.ensures
    ▸ c.in_ok-put_model.ensures
    ▸ c.in_ok-put_access_rows.ensures
    ▸ c.in_ok-put_template-3.ensures)
