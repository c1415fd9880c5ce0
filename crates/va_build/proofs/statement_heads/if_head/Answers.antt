use Rattle.std.proofs.Common.{arith, refl, ◌∙◌}
use Rattle.va_build.specs.Reading.{row_symbols}
use Rattle.va_build.proofs.HeadRows.{two_left}
use Rattle.va_build.proofs.DueRows.{condition_passed, entered, node_left, taken}
use Rattle.va_build.proofs.statement_heads.if_head.Goals as goal

pub returns-clause-left : goal.returns-clause-left
unfolding row_symbols
returns-clause-left c = two_left c.args.e.now _ _ _ _ 90 _ c.enter.ensures (entered c.enter.ensures ∙ c.requires.row) (grind arith) (grind arith) (grind arith) (grind arith)

pub enter-requires : goal.enter-requires
enter-requires c = node_left c.requires.due

pub read_condition-requires-clause-due : goal.read_condition-requires-clause-due
unfolding row_symbols
read_condition-requires-clause-due c = (_, _, taken 90 c.requires.due c.enter.ensures (entered c.enter.ensures ∙ c.requires.row))

pub returns-clause-due : goal.returns-clause-due
unfolding row_symbols
returns-clause-due c = condition_passed (taken 90 c.requires.due c.enter.ensures (entered c.enter.ensures ∙ c.requires.row)) c.in_ok-test.ensures
