use Rattle.std.proofs.Common.{None}
use Rattle.va_scopes.proofs.Tabled.{table_updates}
use Rattle.va_scopes.proofs.table.take_out.Goals as goal

pub returns : goal.returns
returns c = table_updates c.args.table.now c.swap_remove-before.new.self c.args.name.now None c.swap_remove-before.ensures.updates
