use Rattle.std.proofs.Common.{arith, refl, ◌∙◌}
use Rattle.va_build.specs.Reading.{row_symbols}
use Rattle.va_build.specs.SourceItems.{item_body}
use Rattle.va_build.proofs.TakenRows.{read}
use Rattle.va_build.proofs.DueRows.{entered, node_left, passed, passed_by, taken, token_left}
use Rattle.va_build.proofs.item_bodies.alias.Goals as goal

pub returns : goal.returns
unfolding row_symbols
returns c = read (item_body c.args.e.now) _ _ _ _ 45 _ c.enter.ensures (entered c.enter.ensures ∙ c.requires.row) (grind arith) (grind arith) (grind arith) (grind arith)

pub enter-requires : goal.enter-requires
enter-requires c = node_left c.requires.due

pub pass-at-requires : goal.pass-at-requires
unfolding row_symbols
pass-at-requires c = token_left (taken 45 c.requires.due c.enter.ensures (entered c.enter.ensures ∙ c.requires.row))

pub pass-requires : goal.pass-requires
unfolding row_symbols
pass-requires c = token_left (passed_by (passed (taken 45 c.requires.due c.enter.ensures (entered c.enter.ensures ∙ c.requires.row)) c.pass-at.ensures) c.in_ok-name.ensures.passed c.in_ok-name.ensures.nodes)

pub pass-requires-2 : goal.pass-requires-2
unfolding row_symbols
pass-requires-2 c = token_left (passed_by (passed (passed_by (passed (taken 45 c.requires.due c.enter.ensures (entered c.enter.ensures ∙ c.requires.row)) c.pass-at.ensures) c.in_ok-name.ensures.passed c.in_ok-name.ensures.nodes) c.pass.ensures) c.in_ok-target.ensures.passed c.in_ok-target.ensures.nodes)

pub named-requires-clause-due : goal.named-requires-clause-due
unfolding row_symbols
named-requires-clause-due c = token_left (passed (taken 45 c.requires.due c.enter.ensures (entered c.enter.ensures ∙ c.requires.row)) c.pass-at.ensures)

pub named-requires-2-clause-due : goal.named-requires-2-clause-due
unfolding row_symbols
named-requires-2-clause-due c = token_left (passed (passed_by (passed (taken 45 c.requires.due c.enter.ensures (entered c.enter.ensures ∙ c.requires.row)) c.pass-at.ensures) c.in_ok-name.ensures.passed c.in_ok-name.ensures.nodes) c.pass.ensures)
