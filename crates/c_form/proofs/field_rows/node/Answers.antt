use Rattle.c_form.proofs.Blaming.{◌▸◌}
use Rattle.c_form.proofs.field_rows.node.Goals as goal

pub returns : goal.returns
returns c = λ m k. c.in_ok-node_cell.ensures m k ▸ c.in_ok-node_cell-2.ensures m k
