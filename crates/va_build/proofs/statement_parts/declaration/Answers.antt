use Rattle.std.proofs.Common.{arith, refl, ◌∷◌, []}
use Rattle.va_build.specs.Reading.{row_symbols}
use Rattle.va_build.specs.SourceStatements.{declaration}
use Rattle.va_build.proofs.TakenRows.{read}
use Rattle.va_build.proofs.DueRows.{behind, declaration_due, no_other, node_left, one_due, passed, token_left}
use Rattle.va_build.proofs.statement_parts.declaration.Goals as goal

pub returns-in-103 : goal.returns-in-103
unfolding row_symbols
returns-in-103 c = read (declaration c.args.e.now) _ _ _ _ 103 _ c.enter-row.ensures c.in-103.is (grind arith) (grind arith) (grind arith) (grind arith)

pub returns-in-104 : goal.returns-in-104
unfolding row_symbols
returns-in-104 c = read (declaration c.args.e.now) _ _ _ _ 104 _ c.enter-row.ensures c.in-104.is (grind arith) (grind arith) (grind arith) (grind arith)

pub enter-row-requires : goal.enter-row-requires
enter-row-requires c = node_left c.requires.due

pub pass-at-requires : goal.pass-at-requires
unfolding row_symbols
pass-at-requires c = token_left ((declaration_due c.requires.due c.enter-row.ensures).1)

pub variables-requires-clause-due : goal.variables-requires-clause-due
unfolding row_symbols
variables-requires-clause-due c = one_due (passed ((declaration_due c.requires.due c.enter-row.ensures).1) c.pass-at.ensures)

pub pass-requires : goal.pass-requires
unfolding row_symbols
pass-requires c = token_left (behind (passed ((declaration_due c.requires.due c.enter-row.ensures).1) c.pass-at.ensures) c.in_ok-list.ensures)

pub unreachable-requires : goal.unreachable-requires
unreachable-requires c = no_other (103 ∷ 104 ∷ []) c.requires.due c.enter-row.ensures refl (c.in_default.in_default-own.rest.0.1, (c.in_default.in_default-own.rest.1, tt))
