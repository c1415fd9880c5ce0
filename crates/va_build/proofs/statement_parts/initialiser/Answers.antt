use Rattle.std.proofs.Common.{arith, refl, ◌∷◌, []}
use Rattle.va_build.specs.Reading.{row_symbols}
use Rattle.va_build.specs.SourceStatements.{initialiser}
use Rattle.va_build.proofs.TakenRows.{read}
use Rattle.va_build.proofs.DueRows.{no_other, node_left, one_due, passed, taken, token_left}
use Rattle.va_build.proofs.statement_parts.initialiser.Goals as goal

pub returns-in_ok-value-in-80 : goal.returns-in_ok-value-in-80
unfolding row_symbols
returns-in_ok-value-in-80 c = read (initialiser c.args.e.now) _ _ _ _ 80 _ c.enter.ensures c.in-80.is (grind arith) (grind arith) (grind arith) (grind arith)

pub returns-in-81 : goal.returns-in-81
unfolding row_symbols
returns-in-81 c = read (initialiser c.args.e.now) _ _ _ _ 81 _ c.enter.ensures c.in-81.is (grind arith) (grind arith) (grind arith) (grind arith)

pub enter-requires : goal.enter-requires
enter-requires c = node_left c.requires.due

pub pass-requires : goal.pass-requires
unfolding row_symbols
pass-requires c = token_left (taken 80 c.requires.due c.enter.ensures c.in-80.is)

pub expression-requires-clause-due : goal.expression-requires-clause-due
unfolding row_symbols
expression-requires-clause-due c = one_due (passed (taken 80 c.requires.due c.enter.ensures c.in-80.is) c.pass.ensures)

pub unreachable-requires : goal.unreachable-requires
unreachable-requires c = no_other (80 ∷ 81 ∷ []) c.requires.due c.enter.ensures refl (c.in_default.in_default-own.rest.0.1, (c.in_default.in_default-own.rest.1, tt))
