use Rattle.c_tree.specs.Text.{init_words}
use Rattle.c_print.proofs.function.put_reset.Goals as goal

pub returns : goal.returns
unfolding init_words
returns c = c.in_ok-put_template.ensures
