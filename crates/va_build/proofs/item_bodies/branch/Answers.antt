use Rattle.std.proofs.Common.{arith, refl, ◌∙◌}
use Rattle.va_build.specs.Reading.{row_symbols}
use Rattle.va_build.specs.SourceItems.{item_body}
use Rattle.va_build.proofs.TakenRows.{read}
use Rattle.va_build.proofs.DueRows.{behind, entered, node_left, one_due, passed, passed_by, taken, token_left}
use Rattle.va_build.proofs.item_bodies.branch.Goals as goal

pub returns : goal.returns
unfolding row_symbols
returns c = read (item_body c.args.e.now) _ _ _ _ 42 _ c.enter.ensures (entered c.enter.ensures ∙ c.requires.row) (grind arith) (grind arith) (grind arith) (grind arith)

pub enter-requires : goal.enter-requires
enter-requires c = node_left c.requires.due

pub pass-at-requires : goal.pass-at-requires
unfolding row_symbols
pass-at-requires c = token_left (taken 42 c.requires.due c.enter.ensures (entered c.enter.ensures ∙ c.requires.row))

pub pass-requires : goal.pass-requires
unfolding row_symbols
pass-requires c = token_left (passed (taken 42 c.requires.due c.enter.ensures (entered c.enter.ensures ∙ c.requires.row)) c.pass-at.ensures)

pub pass-requires-2 : goal.pass-requires-2
unfolding row_symbols
pass-requires-2 c = token_left (behind (passed_by (passed (passed (taken 42 c.requires.due c.enter.ensures (entered c.enter.ensures ∙ c.requires.row)) c.pass-at.ensures) c.pass.ensures) c.in_ok-first.ensures.passed c.in_ok-first.ensures.nodes) c.in_ok-second.ensures)

pub names_behind-requires-clause-due : goal.names_behind-requires-clause-due
unfolding row_symbols
names_behind-requires-clause-due c = one_due (passed_by (passed (behind (passed_by (passed (passed (taken 42 c.requires.due c.enter.ensures (entered c.enter.ensures ∙ c.requires.row)) c.pass-at.ensures) c.pass.ensures) c.in_ok-first.ensures.passed c.in_ok-first.ensures.nodes) c.in_ok-second.ensures) c.pass-2.ensures) c.in_ok-name.ensures.passed c.in_ok-name.ensures.nodes)

pub pass-requires-3 : goal.pass-requires-3
unfolding row_symbols
pass-requires-3 c = token_left (behind (passed_by (passed (behind (passed_by (passed (passed (taken 42 c.requires.due c.enter.ensures (entered c.enter.ensures ∙ c.requires.row)) c.pass-at.ensures) c.pass.ensures) c.in_ok-first.ensures.passed c.in_ok-first.ensures.nodes) c.in_ok-second.ensures) c.pass-2.ensures) c.in_ok-name.ensures.passed c.in_ok-name.ensures.nodes) c.in_ok-names.ensures)

pub named-requires-clause-due : goal.named-requires-clause-due
unfolding row_symbols
named-requires-clause-due c = token_left (passed (passed (taken 42 c.requires.due c.enter.ensures (entered c.enter.ensures ∙ c.requires.row)) c.pass-at.ensures) c.pass.ensures)

pub second_node-requires-clause-due : goal.second_node-requires-clause-due
unfolding row_symbols
second_node-requires-clause-due c = one_due (passed_by (passed (passed (taken 42 c.requires.due c.enter.ensures (entered c.enter.ensures ∙ c.requires.row)) c.pass-at.ensures) c.pass.ensures) c.in_ok-first.ensures.passed c.in_ok-first.ensures.nodes)

pub named-requires-2-clause-due : goal.named-requires-2-clause-due
unfolding row_symbols
named-requires-2-clause-due c = token_left (passed (behind (passed_by (passed (passed (taken 42 c.requires.due c.enter.ensures (entered c.enter.ensures ∙ c.requires.row)) c.pass-at.ensures) c.pass.ensures) c.in_ok-first.ensures.passed c.in_ok-first.ensures.nodes) c.in_ok-second.ensures) c.pass-2.ensures)
