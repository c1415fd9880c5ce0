use Rattle.c_tree.specs.Words.{cast_words}
use Rattle.c_print.proofs.Printing.{◌▸◌}
use Rattle.c_print.proofs.function.put_cast.Goals as goal

pub returns : goal.returns
unfolding cast_words
returns c =
    rw (← c.as_bytes.ensures.value, ← c.as_bytes-2.ensures.value) (c.in_ok-put_indexed.ensures
    ▸ c.in_ok-put_word.ensures
    ▸ c.in_ok-put_word-2.ensures
    ▸ c.in_ok-put_template.ensures
    ▸ c.in_ok-put_indexed-2.ensures
    ▸ c.in_ok-put_template-2.ensures
    ▸ c.in_ok-put_word-3.ensures
    ▸ c.in_ok-put_word-4.ensures)
