use Rattle.c_tables.proofs.Printing.{◌▸◌}
use Rattle.c_tables.proofs.parameter.put_given.Goals as goal

pub returns : goal.returns
returns c =
    rw (← c.as_list-names.ensures, ← c.own_name.ensures, ← c.aliases_of.ensures, ← c.type_word.ensures)
    ((c.in_ok-put_word.ensures ▸ c.in_ok-put_index.ensures ▸ c.in_ok-put_bytes.ensures ▸ c.in_ok-put_word-2.ensures ▸ c.in_ok-put_word-3.ensures ▸ c.in_ok-put_quoted.ensures ▸ c.in_ok-put_quoted-2.ensures)
    ▸ c.in_ok-put_aliases.ensures)
