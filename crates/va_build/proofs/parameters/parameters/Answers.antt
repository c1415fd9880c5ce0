use Rattle.std.proofs.Common.{arith, refl}
use Rattle.va_build.specs.Reading.{row_symbols}
use Rattle.va_build.specs.SourceItems.{parameters}
use Rattle.va_build.proofs.TakenRows.{read}
use Rattle.va_build.proofs.DueRows.{behind, node_left, one_due, only, taken_only}
use Rattle.va_build.proofs.parameters.parameters.Goals as goal

pub returns : goal.returns
unfolding row_symbols
returns c = read (parameters c.args.e.now) _ _ _ _ 59 _ c.enter.ensures (only 59 c.requires.due c.enter.ensures refl) (grind arith) (grind arith) (grind arith) (grind arith)

pub enter-requires : goal.enter-requires
enter-requires c = node_left c.requires.due

pub parameter-requires-clause-due : goal.parameter-requires-clause-due
unfolding row_symbols
parameter-requires-clause-due c = one_due (taken_only 59 c.requires.due c.enter.ensures refl)

pub parameters_behind-requires-clause-due : goal.parameters_behind-requires-clause-due
unfolding row_symbols
parameters_behind-requires-clause-due c = one_due (behind (taken_only 59 c.requires.due c.enter.ensures refl) c.in_ok-first.ensures)
