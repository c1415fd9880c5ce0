use Rattle.c_tables.proofs.Printing.{◌▸◌}
use Rattle.c_tables.proofs.parameter.put_alias.Goals as goal

pub returns : goal.returns
returns c = c.in_ok-put_word.ensures ▸ c.in_ok-put_index.ensures ▸ c.in_ok-put_name.ensures
