use Rattle.c_tree.specs.Text.{function_words}
use Rattle.c_print.proofs.Printing.{◌▸◌}
use Rattle.c_print.proofs.function.put_function.Goals as goal

pub returns : goal.returns
unfolding function_words
returns c =
    rw (← c.as_list.ensures, ← c.as_list-2.ensures) (c.in_ok-put_word.ensures
    ▸ c.in_ok-put_type.ensures
    ▸ c.in_ok-put_function_name.ensures
    ▸ c.in_ok-put_word-2.ensures
    ▸ c.in_ok-put_arguments.ensures
    ▸ c.in_ok-put_template.ensures
    ▸ c.in_ok-put_body.ensures
    ▸ c.in_ok-put_word-3.ensures
    ▸ c.in_ok-put_atom.ensures
    ▸ c.in_ok-put_template-2.ensures)
