use Rattle.c_tree.specs.Text.{words_of, text_of}
use Rattle.c_print.proofs.Printing.{◌▸◌, prints_text}
use Rattle.c_print.proofs.print.Goals as goal

pub returns : goal.returns
unfolding words_of text_of
returns c =
    prints_text _ _ _ c.new-text.ensures.items
    (rw (← c.as_list-modules.ensures) (c.in_ok-put_includes.ensures ▸ c.in_ok-put_help.ensures ▸ c.in_ok-put_modules.ensures ▸ c.in_ok-put_end.ensures))
