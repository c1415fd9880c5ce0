use Rattle.std.proofs.Common.{arith}
use Rattle.va_build.proofs.TopItems.{read_source}
use Rattle.va_build.proofs.DueRows.{text_due}
use Rattle.va_build.proofs.read_source.read_source.Goals as goal

pub all_found-requires-clause-due : goal.all_found-requires-clause-due
all_found-requires-clause-due c = text_due c.args.e.now c.args.tree.now c.requires.expanded c.requires.parsed _ (grind arith) (grind arith)

pub returns : goal.returns
returns c = read_source c.args.e.now _ c.requires.parsed _ (grind arith) (grind arith) (grind arith)
