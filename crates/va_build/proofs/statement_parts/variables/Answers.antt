use Rattle.std.proofs.Common.{arith, refl}
use Rattle.va_build.specs.Reading.{row_symbols}
use Rattle.va_build.specs.SourceStatements.{variables}
use Rattle.va_build.proofs.TakenRows.{read}
use Rattle.va_build.proofs.DueRows.{behind, node_left, one_due, only, taken_only}
use Rattle.va_build.proofs.statement_parts.variables.Goals as goal

pub returns : goal.returns
unfolding row_symbols
returns c = read (variables c.args.e.now) _ _ _ _ 76 _ c.enter.ensures (only 76 c.requires.due c.enter.ensures refl) (grind arith) (grind arith) (grind arith) (grind arith)

pub enter-requires : goal.enter-requires
enter-requires c = node_left c.requires.due

pub variable-requires-clause-due : goal.variable-requires-clause-due
unfolding row_symbols
variable-requires-clause-due c = one_due (taken_only 76 c.requires.due c.enter.ensures refl)

pub variables_behind-requires-clause-due : goal.variables_behind-requires-clause-due
unfolding row_symbols
variables_behind-requires-clause-due c = one_due (behind (taken_only 76 c.requires.due c.enter.ensures refl) c.in_ok-first.ensures)
