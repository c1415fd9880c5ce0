use Rattle.std.proofs.Common.{arith, ◌∷◌, []}
use Rattle.va_build.specs.Reading.{row_symbols}
use Rattle.va_build.proofs.HeadRows.{one_left}
use Rattle.va_build.proofs.DueRows.{condition_passed, node_left, not_among, taken}
use Rattle.va_build.proofs.statement_heads.loop_head.Goals as goal

pub returns-in_ok-test-in-93-clause-left : goal.returns-in_ok-test-in-93-clause-left
unfolding row_symbols
returns-in_ok-test-in-93-clause-left c = one_left c.args.e.now _ _ _ _ 93 0 _ c.enter.ensures c.in-93.is (grind arith) (grind arith) (grind arith) (grind arith)

pub returns-in_ok-count-in-94-clause-left : goal.returns-in_ok-count-in-94-clause-left
unfolding row_symbols
returns-in_ok-count-in-94-clause-left c = one_left c.args.e.now _ _ _ _ 94 0 _ c.enter.ensures c.in-94.is (grind arith) (grind arith) (grind arith) (grind arith)

pub enter-requires : goal.enter-requires
enter-requires c = node_left c.requires.due

pub read_condition-requires-clause-due : goal.read_condition-requires-clause-due
unfolding row_symbols
read_condition-requires-clause-due c = (_, _, taken 93 c.requires.due c.enter.ensures c.in-93.is)

pub read_condition-requires-in-94-clause-due : goal.read_condition-requires-in-94-clause-due
unfolding row_symbols
read_condition-requires-in-94-clause-due c = (_, _, taken 94 c.requires.due c.enter.ensures c.in-94.is)

pub unreachable-requires : goal.unreachable-requires
unreachable-requires c = not_among (93 ∷ 94 ∷ []) c.enter.ensures c.requires.row (c.in_default.in_default-own.rest.0.1, (c.in_default.in_default-own.rest.1, tt))

pub returns-in_ok-test-in-93-clause-due : goal.returns-in_ok-test-in-93-clause-due
unfolding row_symbols
returns-in_ok-test-in-93-clause-due c = condition_passed (taken 93 c.requires.due c.enter.ensures c.in-93.is) c.in_ok-test-in-93.ensures

pub returns-in_ok-count-in-94-clause-due : goal.returns-in_ok-count-in-94-clause-due
unfolding row_symbols
returns-in_ok-count-in-94-clause-due c = condition_passed (taken 94 c.requires.due c.enter.ensures c.in-94.is) c.in_ok-count-in-94.ensures
