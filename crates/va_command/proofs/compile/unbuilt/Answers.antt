use Rattle.va_command.proofs.Reading.{stands_first}
use Rattle.va_command.proofs.compile.unbuilt.Goals as goal

pub returns : goal.returns
returns c = stands_first c.args.e.now c.as_list.result.now _ c.as_list.ensures c.requires.expanded
