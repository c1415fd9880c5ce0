use Rattle.std.proofs.Common.{arith, refl}
use Rattle.va_build.specs.Reading.{row_symbols}
use Rattle.va_build.specs.SourceItems.{parameter}
use Rattle.va_build.proofs.TakenRows.{read}
use Rattle.va_build.proofs.DueRows.{behind, node_left, one_due, only, passed, passed_by, taken_only, token_left}
use Rattle.va_build.proofs.parameters.parameter.Goals as goal

pub returns : goal.returns
unfolding row_symbols
returns c = read (parameter c.args.e.now) _ _ _ _ 62 _ c.enter.ensures (only 62 c.requires.due c.enter.ensures refl) (grind arith) (grind arith) (grind arith) (grind arith)

pub enter-requires : goal.enter-requires
enter-requires c = node_left c.requires.due

pub pass-requires : goal.pass-requires
unfolding row_symbols
pass-requires c = token_left (passed_by (taken_only 62 c.requires.due c.enter.ensures refl) c.in_ok-name.ensures.passed c.in_ok-name.ensures.nodes)

pub ranges-requires-clause-due : goal.ranges-requires-clause-due
unfolding row_symbols
ranges-requires-clause-due c = one_due (behind (passed (passed_by (taken_only 62 c.requires.due c.enter.ensures refl) c.in_ok-name.ensures.passed c.in_ok-name.ensures.nodes) c.pass.ensures) c.in_ok-default.ensures)

pub named-requires-clause-due : goal.named-requires-clause-due
unfolding row_symbols
named-requires-clause-due c = token_left (taken_only 62 c.requires.due c.enter.ensures refl)

pub expression-requires-clause-due : goal.expression-requires-clause-due
unfolding row_symbols
expression-requires-clause-due c = one_due (passed (passed_by (taken_only 62 c.requires.due c.enter.ensures refl) c.in_ok-name.ensures.passed c.in_ok-name.ensures.nodes) c.pass.ensures)
