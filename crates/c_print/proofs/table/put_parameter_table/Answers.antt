use Rattle.c_tree.specs.Text.{parameter_words}
use Rattle.c_print.proofs.Printing.{◌▸◌}
use Rattle.c_print.proofs.table.put_parameter_table.Goals as goal

pub returns : goal.returns
unfolding parameter_words
returns c =
    c.in_ok-put_parameters.ensures
    ▸ c.in_ok-put_template.ensures
