use Rattle.c_tables.proofs.Printing.{◌▸◌}
use Rattle.c_tables.proofs.table.put_entry.Goals as goal

pub returns : goal.returns
returns c = rw (← c.parts_word.ensures) (c.in_ok-put_word.ensures ▸ c.in_ok-put_number.ensures ▸ c.in_ok-put_number-2.ensures ▸ c.in_ok-put_word-2.ensures)
