use Rattle.std.proofs.Common.{Some}
use Rattle.va_scopes.proofs.Tabled.{table_updates}
use Rattle.va_scopes.proofs.table.put.Goals as goal

pub returns-clause-after : goal.returns-clause-after
returns-clause-after c = table_updates c.args.table.now c.insert.new.self c.args.name.now (Some c.args.seen) c.in_ok-before.ensures.updates
