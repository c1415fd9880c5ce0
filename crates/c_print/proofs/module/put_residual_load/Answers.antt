use Rattle.c_tree.specs.short.Text.{loads_words}
use Rattle.c_print.proofs.Printing.{◌▸◌}
use Rattle.c_print.proofs.module.put_residual_load.Goals as goal

pub returns : goal.returns
unfolding loads_words
returns c =
    rw (← c.as_list.ensures) (c.in_ok-put_template.ensures ▸ c.in_ok-put_numbered.ensures
    ▸ c.in_ok-put_template-2.ensures ▸ c.in_ok-put_cast.ensures ▸ c.in_ok-put_loads.ensures ▸ c.in_ok-put_word.ensures)
