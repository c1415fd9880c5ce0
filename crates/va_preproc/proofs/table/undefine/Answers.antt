use Rattle.std.proofs.Common.{None}
use Rattle.va_preproc.proofs.Tables.{table_updates}
use Rattle.va_preproc.proofs.table.undefine.Goals as goal

pub returns : goal.returns
returns c = λ files. table_updates files c.args.macros.now c.swap_remove-before.new.self c.args.name.now None c.swap_remove-before.ensures.updates
