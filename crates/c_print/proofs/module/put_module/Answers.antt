use Rattle.c_tree.specs.short.Text.{module_words}
use Rattle.c_print.proofs.Printing.{◌▸◌}
use Rattle.c_print.proofs.module.put_module.Goals as goal

pub returns : goal.returns
unfolding module_words
returns c =
    c.in_ok-put_structs.ensures ▸ c.in_ok-put_eval.ensures ▸ c.in_ok-put_residual_load.ensures
