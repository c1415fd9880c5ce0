use Rattle.c_tree.specs.Text.{module_words}
use Rattle.c_print.proofs.Printing.{◌▸◌}
use Rattle.c_print.proofs.whole.put_module.Goals as goal

pub returns : goal.returns
unfolding module_words
returns c =
    c.in_ok-put_structs.ensures
    ▸ c.in_ok-put_module_functions.ensures
    ▸ c.in_ok-put_access.ensures
    ▸ c.in_ok-put_setup_model.ensures
    ▸ c.in_ok-put_setup_instance.ensures
    ▸ c.in_ok-put_eval.ensures
    ▸ c.in_ok-put_loads.ensures
    ▸ c.in_ok-put_tables.ensures
