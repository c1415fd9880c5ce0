use Rattle.std.proofs.Common.{arith, refl, ◌∷◌, []}
use Rattle.va_build.specs.Reading.{row_symbols}
use Rattle.va_build.specs.SourceStatements.{task_arguments}
use Rattle.va_build.proofs.TakenRows.{read}
use Rattle.va_build.proofs.DueRows.{behind, no_other, node_left, one_due, passed, taken, token_left}
use Rattle.va_build.proofs.statement_parts.task_arguments.Goals as goal

pub returns-in_ok-args-in-125 : goal.returns-in_ok-args-in-125
unfolding row_symbols
returns-in_ok-args-in-125 c = read (task_arguments c.args.e.now) _ _ _ _ 125 _ c.enter.ensures c.in-125.is (grind arith) (grind arith) (grind arith) (grind arith)

pub returns-in-126 : goal.returns-in-126
unfolding row_symbols
returns-in-126 c = read (task_arguments c.args.e.now) _ _ _ _ 126 _ c.enter.ensures c.in-126.is (grind arith) (grind arith) (grind arith) (grind arith)

pub enter-requires : goal.enter-requires
enter-requires c = node_left c.requires.due

pub pass-requires : goal.pass-requires
unfolding row_symbols
pass-requires c = token_left (taken 125 c.requires.due c.enter.ensures c.in-125.is)

pub arguments-requires-clause-due : goal.arguments-requires-clause-due
unfolding row_symbols
arguments-requires-clause-due c = one_due (passed (taken 125 c.requires.due c.enter.ensures c.in-125.is) c.pass.ensures)

pub pass-requires-in-125 : goal.pass-requires-in-125
unfolding row_symbols
pass-requires-in-125 c = token_left (behind (passed (taken 125 c.requires.due c.enter.ensures c.in-125.is) c.pass.ensures) c.in_ok-args-in-125.ensures)

pub unreachable-requires : goal.unreachable-requires
unreachable-requires c = no_other (125 ∷ 126 ∷ []) c.requires.due c.enter.ensures refl (c.in_default.in_default-own.rest.0.1, (c.in_default.in_default-own.rest.1, tt))
