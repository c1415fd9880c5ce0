use Rattle.c_tables.proofs.Printing.{◌▸◌}
use Rattle.c_tables.proofs.table.put_node.Goals as goal

pub returns : goal.returns
returns c = c.in_ok-put_word.ensures ▸ c.in_ok-put_index.ensures ▸ c.in_ok-put_name.ensures ▸ c.in_ok-put_quoted.ensures ▸ c.in_ok-put_quoted-2.ensures
