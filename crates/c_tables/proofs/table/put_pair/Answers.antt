use Rattle.c_tables.proofs.Printing.{◌▸◌}
use Rattle.c_tables.proofs.table.put_pair.Goals as goal

pub returns : goal.returns
returns c = c.in_ok-put_word.ensures ▸ c.in_ok-put_number.ensures ▸ c.in_ok-put_second.ensures
