use Rattle.c_tree.specs.Text.{load_function_words}
use Rattle.c_print.proofs.Printing.{◌▸◌}
use Rattle.c_print.proofs.load.put_load_function.Goals as goal

pub returns : goal.returns
unfolding load_function_words
returns c =
    c.in_ok-put_template.ensures
    ▸ c.in_ok-put_load_name.ensures
    ▸ c.in_ok-put_template-2.ensures
    ▸ c.in_ok-put_load_arguments.ensures
    ▸ c.in_ok-put_template-3.ensures
    ▸ c.in_ok-put_instance.ensures
    ▸ c.in_ok-put_load_statements.ensures
    ▸ c.in_ok-put_word.ensures
