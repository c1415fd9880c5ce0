use Rattle.std.specs.Prelude.{Some}
use Rattle.c_form.proofs.Naming.{named-updates}
use Rattle.c_form.proofs.cell_types.enter.Goals as goal

pub returns : goal.returns
returns c = named-updates c.args.table.now c.insert.new.self c.args.name.items (Some c.args.ty) c.in_ok-_before.ensures.updates
