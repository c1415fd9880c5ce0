use Rattle.std.proofs.Common.{arith, refl}
use Rattle.va_build.specs.Reading.{row_symbols}
use Rattle.va_build.specs.SourceStatements.{variable}
use Rattle.va_build.proofs.TakenRows.{read}
use Rattle.va_build.proofs.DueRows.{node_left, one_due, only, passed_by, taken_only, token_left}
use Rattle.va_build.proofs.statement_parts.variable.Goals as goal

pub returns : goal.returns
unfolding row_symbols
returns c = read (variable c.args.e.now) _ _ _ _ 79 _ c.enter.ensures (only 79 c.requires.due c.enter.ensures refl) (grind arith) (grind arith) (grind arith) (grind arith)

pub enter-requires : goal.enter-requires
enter-requires c = node_left c.requires.due

pub named-requires-clause-due : goal.named-requires-clause-due
unfolding row_symbols
named-requires-clause-due c = token_left (taken_only 79 c.requires.due c.enter.ensures refl)

pub initialiser-requires-clause-due : goal.initialiser-requires-clause-due
unfolding row_symbols
initialiser-requires-clause-due c = one_due (passed_by (taken_only 79 c.requires.due c.enter.ensures refl) c.in_ok-name.ensures.passed c.in_ok-name.ensures.nodes)
