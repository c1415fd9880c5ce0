use Rattle.c_tree.specs.Text.{help_words}
use Rattle.c_print.proofs.Printing.{◌▸◌}
use Rattle.c_print.proofs.whole.put_help.Goals as goal

pub returns : goal.returns
unfolding help_words
returns c =
    c.in_ok-put_template.ensures
    ▸ c.in_ok-put_template-2.ensures
    ▸ c.in_ok-put_template-3.ensures
    ▸ c.in_ok-put_template-4.ensures
    ▸ c.in_ok-put_template-5.ensures
    ▸ c.in_ok-put_template-6.ensures
    ▸ c.in_ok-put_template-7.ensures
    ▸ c.in_ok-put_template-8.ensures
