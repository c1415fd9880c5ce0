use Rattle.std.proofs.Common.{arith}
use Rattle.va_build.specs.Reading.{row_symbols}
use Rattle.va_build.specs.SourceItems.{item_body}
use Rattle.va_build.proofs.TakenRows.{read}
use Rattle.va_build.proofs.DueRows.{behind, neither, node_left, one_due, parameters_due, passed, token_left}
use Rattle.va_build.proofs.parameters.parameter_item.Goals as goal

pub returns-in-43 : goal.returns-in-43
unfolding row_symbols
returns-in-43 c = read (item_body c.args.e.now) _ _ _ _ 43 _ c.enter-row.ensures c.in-43.is (grind arith) (grind arith) (grind arith) (grind arith)

pub returns-in-44 : goal.returns-in-44
unfolding row_symbols
returns-in-44 c = read (item_body c.args.e.now) _ _ _ _ 44 _ c.enter-row.ensures c.in-44.is (grind arith) (grind arith) (grind arith) (grind arith)

pub enter-row-requires : goal.enter-row-requires
enter-row-requires c = node_left c.requires.due

pub pass-at-requires : goal.pass-at-requires
unfolding row_symbols
pass-at-requires c = token_left ((parameters_due c.requires.due c.enter-row.ensures c.requires.row).1)

pub optional_type-ty-requires : goal.optional_type-ty-requires
unfolding row_symbols
optional_type-ty-requires c = record { due = one_due (passed ((parameters_due c.requires.due c.enter-row.ensures c.requires.row).1) c.pass-at.ensures) }

pub parameters-requires-clause-due : goal.parameters-requires-clause-due
unfolding row_symbols
parameters-requires-clause-due c = one_due (behind (passed ((parameters_due c.requires.due c.enter-row.ensures c.requires.row).1) c.pass-at.ensures) c.optional_type-ty.ensures)

pub pass-requires : goal.pass-requires
unfolding row_symbols
pass-requires c = token_left (behind (behind (passed ((parameters_due c.requires.due c.enter-row.ensures c.requires.row).1) c.pass-at.ensures) c.optional_type-ty.ensures) c.in_ok-list.ensures)

pub unreachable-requires : goal.unreachable-requires
unreachable-requires c = neither c.enter-row.ensures c.requires.row c.in_default.in_default-own.rest.0.1 c.in_default.in_default-own.rest.1
