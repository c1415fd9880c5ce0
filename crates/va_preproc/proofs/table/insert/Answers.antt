use Rattle.std.proofs.Common.{Some}
use Rattle.va_preproc.proofs.Tables.{table_updates}
use Rattle.va_preproc.proofs.table.insert.Goals as goal

pub returns : goal.returns
returns c = λ files. table_updates files c.args.macros.now c.insert.new.self c.args.name.items (Some c.args.definition) c.in_ok-_before.ensures.updates
