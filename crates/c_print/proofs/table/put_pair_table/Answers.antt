use Rattle.c_print.proofs.Printing.{◌▸◌}
use Rattle.c_print.proofs.table.put_pair_table.Goals as goal

pub returns : goal.returns
returns c =
    c.in_ok-put_pairs.ensures
    ▸ c.in_ok-put_template.ensures
