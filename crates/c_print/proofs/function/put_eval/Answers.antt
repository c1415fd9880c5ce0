use Rattle.c_tree.specs.Text.{eval_words}
use Rattle.c_print.proofs.Printing.{◌▸◌}
use Rattle.c_print.proofs.function.put_eval.Goals as goal

pub returns : goal.returns
unfolding eval_words
returns c =
    rw (← c.as_list.ensures) (c.in_ok-put_template.ensures
    ▸ c.in_ok-put_indexed.ensures
    ▸ c.in_ok-put_template-2.ensures
    ▸ c.in_ok-put_instance.ensures
    ▸ c.in_ok-put_model.ensures
    ▸ c.in_ok-put_template-3.ensures
    ▸ c.in_ok-put_body.ensures
    ▸ c.in_ok-put_template-4.ensures)
