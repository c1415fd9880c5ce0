use Rattle.std.proofs.Common.{arith, refl, ◌∷◌, []}
use Rattle.va_build.specs.Reading.{row_symbols}
use Rattle.va_build.specs.SourceStatements.{label}
use Rattle.va_build.proofs.TakenRows.{read}
use Rattle.va_build.proofs.DueRows.{no_other, node_left, passed, taken, token_left}
use Rattle.va_build.proofs.statement_parts.label.Goals as goal

pub returns-in_ok-name-in-99 : goal.returns-in_ok-name-in-99
unfolding row_symbols
returns-in_ok-name-in-99 c = read (label c.args.e.now) _ _ _ _ 99 _ c.enter.ensures c.in-99.is (grind arith) (grind arith) (grind arith) (grind arith)

pub returns-in-100 : goal.returns-in-100
unfolding row_symbols
returns-in-100 c = read (label c.args.e.now) _ _ _ _ 100 _ c.enter.ensures c.in-100.is (grind arith) (grind arith) (grind arith) (grind arith)

pub enter-requires : goal.enter-requires
enter-requires c = node_left c.requires.due

pub pass-requires : goal.pass-requires
unfolding row_symbols
pass-requires c = token_left (taken 99 c.requires.due c.enter.ensures c.in-99.is)

pub named-requires-clause-due : goal.named-requires-clause-due
unfolding row_symbols
named-requires-clause-due c = token_left (passed (taken 99 c.requires.due c.enter.ensures c.in-99.is) c.pass.ensures)

pub unreachable-requires : goal.unreachable-requires
unreachable-requires c = no_other (99 ∷ 100 ∷ []) c.requires.due c.enter.ensures refl (c.in_default.in_default-own.rest.0.1, (c.in_default.in_default-own.rest.1, tt))
