use Rattle.c_tree.specs.short.Text.{include_words}
use Rattle.c_print.proofs.Printing.{◌▸◌}
use Rattle.c_print.proofs.module.put_includes.Goals as goal

pub returns : goal.returns
unfolding include_words
returns c =
    c.in_ok-put_word.ensures ▸ c.in_ok-put_word-2.ensures ▸ c.in_ok-put_word-3.ensures ▸ c.in_ok-put_word-4.ensures
    ▸ c.in_ok-put_word-5.ensures
