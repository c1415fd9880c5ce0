use Rattle.std.proofs.Common.{arith, refl, [], ◌∷◌}
use Rattle.va_build.specs.Reading.{row_symbols}
use Rattle.va_build.specs.SourceItems.{function_item}
use Rattle.va_build.proofs.TakenRows.{read}
use Rattle.va_build.proofs.DueRows.{behind, names_due, no_other, node_left, one_due, passed, passed_by, token_left}
use Rattle.va_build.proofs.functions.function_names.Goals as goal

pub returns-in-86 : goal.returns-in-86
unfolding row_symbols
returns-in-86 c = read (function_item c.args.e.now) _ _ _ _ 86 _ c.enter-row.ensures c.in-86.is (grind arith) (grind arith) (grind arith) (grind arith)

pub returns-in-87 : goal.returns-in-87
unfolding row_symbols
returns-in-87 c = read (function_item c.args.e.now) _ _ _ _ 87 _ c.enter-row.ensures c.in-87.is (grind arith) (grind arith) (grind arith) (grind arith)

pub returns-in-88 : goal.returns-in-88
unfolding row_symbols
returns-in-88 c = read (function_item c.args.e.now) _ _ _ _ 88 _ c.enter-row.ensures c.in-88.is (grind arith) (grind arith) (grind arith) (grind arith)

pub enter-row-requires : goal.enter-row-requires
enter-row-requires c = node_left c.requires.due

pub pass-at-requires : goal.pass-at-requires
unfolding row_symbols
pass-at-requires c = token_left ((names_due c.requires.due c.enter-row.ensures).1)

pub names_behind-requires-clause-due : goal.names_behind-requires-clause-due
unfolding row_symbols
names_behind-requires-clause-due c = one_due (passed_by (passed ((names_due c.requires.due c.enter-row.ensures).1) c.pass-at.ensures) c.in_ok-first.ensures.passed c.in_ok-first.ensures.nodes)

pub pass-requires : goal.pass-requires
unfolding row_symbols
pass-requires c = token_left (behind (passed_by (passed ((names_due c.requires.due c.enter-row.ensures).1) c.pass-at.ensures) c.in_ok-first.ensures.passed c.in_ok-first.ensures.nodes) c.in_ok-list.ensures)

pub unreachable-requires : goal.unreachable-requires
unreachable-requires c = no_other (86 ∷ 87 ∷ 88 ∷ []) c.requires.due c.enter-row.ensures refl (c.in_default.in_default-own.rest.0.0.1, (c.in_default.in_default-own.rest.0.1, (c.in_default.in_default-own.rest.1, tt)))

pub named-requires-clause-due : goal.named-requires-clause-due
unfolding row_symbols
named-requires-clause-due c = token_left (passed ((names_due c.requires.due c.enter-row.ensures).1) c.pass-at.ensures)
