use Rattle.c_form.proofs.Blaming.{◌▸◌}
use Rattle.c_form.proofs.field_rows.access_row.Goals as goal

pub returns : goal.returns
returns c = λ m k. c.in_ok-access_flag.ensures m k ▸ c.in_ok-cell_missing.ensures m k
