use Rattle.c_tables.proofs.Printing.{◌▸◌}
use Rattle.c_tables.proofs.table.put_module.Goals as goal

pub returns : goal.returns
returns c =
    rw (← c.as_list.ensures, ← c.as_list-2.ensures, ← c.as_list-3.ensures, ← c.as_list-4.ensures)
    (((((c.in_ok-put_module_name.ensures ▸ c.in_ok-put_ports.ensures) ▸ c.in_ok-put_nodes.ensures) ▸ c.in_ok-put_entries.ensures)
    ▸ c.in_ok-put_pairs.ensures) ▸ c.in_ok-put_parameters.ensures)
