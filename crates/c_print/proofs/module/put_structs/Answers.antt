use Rattle.c_tree.specs.short.Text.{structs_words}
use Rattle.c_print.proofs.Printing.{◌▸◌}
use Rattle.c_print.proofs.module.put_structs.Goals as goal

pub returns : goal.returns
unfolding structs_words
returns c =
    rw (← c.max.ensures) (c.in_ok-put_template.ensures ▸ c.in_ok-put_numbered.ensures ▸ c.in_ok-put_word.ensures
    ▸ c.in_ok-put_template-2.ensures ▸ c.in_ok-put_unsigned.ensures ▸ c.in_ok-put_template-3.ensures
    ▸ c.in_ok-put_fields.ensures ▸ c.in_ok-put_fields-2.ensures
    ▸ c.in_ok-put_word-2.ensures ▸ c.in_ok-put_numbered-2.ensures ▸ c.in_ok-put_word-3.ensures)
