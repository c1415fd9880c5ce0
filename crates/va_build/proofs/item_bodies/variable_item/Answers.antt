use Rattle.std.proofs.Common.{arith}
use Rattle.va_build.specs.Reading.{row_symbols}
use Rattle.va_build.specs.SourceItems.{item_body}
use Rattle.va_build.proofs.TakenRows.{read}
use Rattle.va_build.proofs.DueRows.{behind, neither, node_left, one_due, passed, token_left, variables_due}
use Rattle.va_build.proofs.item_bodies.variable_item.Goals as goal

pub returns-in-46 : goal.returns-in-46
unfolding row_symbols
returns-in-46 c = read (item_body c.args.e.now) _ _ _ _ 46 _ c.enter-row.ensures c.in-46.is (grind arith) (grind arith) (grind arith) (grind arith)

pub returns-in-47 : goal.returns-in-47
unfolding row_symbols
returns-in-47 c = read (item_body c.args.e.now) _ _ _ _ 47 _ c.enter-row.ensures c.in-47.is (grind arith) (grind arith) (grind arith) (grind arith)

pub enter-row-requires : goal.enter-row-requires
enter-row-requires c = node_left c.requires.due

pub pass-at-requires : goal.pass-at-requires
unfolding row_symbols
pass-at-requires c = token_left ((variables_due c.requires.due c.enter-row.ensures c.requires.row).1)

pub pass-requires : goal.pass-requires
unfolding row_symbols
pass-requires c = token_left (behind (passed ((variables_due c.requires.due c.enter-row.ensures c.requires.row).1) c.pass-at.ensures) c.in_ok-list.ensures)

pub unreachable-requires : goal.unreachable-requires
unreachable-requires c = neither c.enter-row.ensures c.requires.row c.in_default.in_default-own.rest.0.1 c.in_default.in_default-own.rest.1

pub variables-requires-clause-due : goal.variables-requires-clause-due
unfolding row_symbols
variables-requires-clause-due c = one_due (passed ((variables_due c.requires.due c.enter-row.ensures c.requires.row).1) c.pass-at.ensures)
