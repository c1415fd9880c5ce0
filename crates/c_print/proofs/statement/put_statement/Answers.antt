use Rattle.c_print.proofs.Printing.{◌▸◌}
use Rattle.c_print.proofs.statement.put_statement.Goals as goal

pub returns-in_ok-put_word-in-Declare-2 : goal.returns-in_ok-put_word-in-Declare-2
returns-in_ok-put_word-in-Declare-2 c =
    rw c.in-Declare.is (c.in_ok-put_template-in-Declare.ensures ▸ c.in_ok-put_numbered-in-Declare.ensures
    ▸ c.in_ok-put_word-in-Declare.ensures ▸ c.in_ok-put_right-in-Declare.ensures ▸ c.in_ok-put_word-in-Declare-2.ensures)
