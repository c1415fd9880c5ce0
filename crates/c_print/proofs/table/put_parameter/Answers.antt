use Rattle.c_tree.specs.Text.{parameter_words}
use Rattle.c_print.proofs.Printing.{◌▸◌}
use Rattle.c_print.proofs.table.put_parameter.Goals as goal

pub returns : goal.returns
unfolding parameter_words
returns c =
    rw (← c.as_list-names.ensures, ← c.alias_count.ensures) (c.in_ok-put_template.ensures
    ▸ c.in_ok-put_names.ensures
    ▸ c.in_ok-put_template-2.ensures
    ▸ c.in_ok-put_count.ensures
    ▸ c.in_ok-put_template-3.ensures
    ▸ c.in_ok-put_string.ensures
    ▸ c.in_ok-put_template-4.ensures
    ▸ c.in_ok-put_string-2.ensures
    ▸ c.in_ok-put_template-5.ensures
    ▸ c.in_ok-put_parameter_type.ensures
    ▸ c.in_ok-put_word.ensures
    ▸ c.in_ok-put_kind.ensures
    ▸ c.in_ok-put_template-6.ensures)
