use Rattle.c_tree.specs.short.Text.{load_words}
use Rattle.c_print.proofs.Printing.{◌▸◌}
use Rattle.c_print.proofs.statement.put_load.Goals as goal

pub returns : goal.returns
unfolding load_words
returns c =
    c.in_ok-put_template.ensures ▸ c.in_ok-put_unsigned.ensures ▸ c.in_ok-put_template-2.ensures
    ▸ c.in_ok-put_field.ensures ▸ c.in_ok-put_word.ensures
