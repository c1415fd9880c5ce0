use Rattle.c_tree.specs.Text.{setup_instance_words}
use Rattle.c_print.proofs.Printing.{◌▸◌}
use Rattle.c_print.proofs.function.put_setup_instance.Goals as goal

pub returns : goal.returns
unfolding setup_instance_words
returns c =
    rw (← c.as_list.ensures) (c.in_ok-put_template.ensures
    ▸ c.in_ok-put_indexed.ensures
    ▸ c.in_ok-put_template-2.ensures
    ▸ c.in_ok-put_template-3.ensures
    ▸ c.in_ok-put_instance.ensures
    ▸ c.in_ok-put_model.ensures
    ▸ c.in_ok-put_reset.ensures
    ▸ c.in_ok-put_template-4.ensures
    ▸ c.in_ok-put_body.ensures
    ▸ c.in_ok-put_word.ensures)
