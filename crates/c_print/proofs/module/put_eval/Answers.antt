use Rattle.c_tree.specs.short.Text.{eval_words}
use Rattle.c_print.proofs.Printing.{◌▸◌}
use Rattle.c_print.proofs.module.put_eval.Goals as goal

pub returns : goal.returns
unfolding eval_words
returns c =
    rw (← c.as_list.ensures) (c.in_ok-put_template.ensures ▸ c.in_ok-put_numbered.ensures
    ▸ c.in_ok-put_template-2.ensures ▸ c.in_ok-put_cast.ensures ▸ c.in_ok-put_cast-2.ensures
    ▸ c.in_ok-put_template-3.ensures ▸ c.in_ok-put_statements.ensures ▸ c.in_ok-put_template-4.ensures)
