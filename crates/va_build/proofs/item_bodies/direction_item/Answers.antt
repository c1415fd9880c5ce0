use Rattle.std.proofs.Common.{refl, ◌∙◌}
use Rattle.va_build.specs.Reading.{row_symbols}
use Rattle.va_build.proofs.ItemRows.{direction_read}
use Rattle.va_build.proofs.DueRows.{as_row, behind, entered, node_left, one_due, passed_by, taken, token_left}
use Rattle.va_build.proofs.item_bodies.direction_item.Goals as goal

pub returns : goal.returns
unfolding row_symbols
returns c = direction_read c.args.e.now _ _ _ _ _ _ 40 _ _ _ _ _ _ _ _ _ _ _ (as_row 40 c.enter.ensures (entered c.enter.ensures ∙ c.requires.row)) refl c.at-at.ensures c.direction-direction.ensures c.in_ok-name.ensures.name c.in_ok-name.ensures.passed c.in_ok-name.ensures.nodes c.in_ok-ports.ensures c.pass.ensures c.new.ensures

pub enter-requires : goal.enter-requires
enter-requires c = node_left c.requires.due

pub direction-direction-requires : goal.direction-direction-requires
unfolding row_symbols
direction-direction-requires c = record { due = one_due (taken 40 c.requires.due c.enter.ensures (entered c.enter.ensures ∙ c.requires.row)) }

pub directed-requires-clause-due : goal.directed-requires-clause-due
unfolding row_symbols
directed-requires-clause-due c = one_due (passed_by (behind (taken 40 c.requires.due c.enter.ensures (entered c.enter.ensures ∙ c.requires.row)) c.direction-direction.ensures) c.in_ok-name.ensures.passed c.in_ok-name.ensures.nodes)

pub pass-requires : goal.pass-requires
unfolding row_symbols
pass-requires c = token_left (behind (passed_by (behind (taken 40 c.requires.due c.enter.ensures (entered c.enter.ensures ∙ c.requires.row)) c.direction-direction.ensures) c.in_ok-name.ensures.passed c.in_ok-name.ensures.nodes) (c.in_ok-ports.ensures.each 0 c.direction-direction.result))

pub named-requires-clause-due : goal.named-requires-clause-due
unfolding row_symbols
named-requires-clause-due c = token_left (behind (taken 40 c.requires.due c.enter.ensures (entered c.enter.ensures ∙ c.requires.row)) c.direction-direction.ensures)
