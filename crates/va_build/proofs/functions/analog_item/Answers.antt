use Rattle.std.proofs.Common.{arith, refl, ◌∙◌}
use Rattle.va_build.specs.Reading.{row_symbols}
use Rattle.va_build.specs.SourceItems.{item_body}
use Rattle.va_build.proofs.TakenRows.{read}
use Rattle.va_build.proofs.DueRows.{entered, node_left, one_due, passed, taken, token_left}
use Rattle.va_build.proofs.functions.analog_item.Goals as goal

pub returns : goal.returns
unfolding row_symbols
returns c = read (item_body c.args.e.now) _ _ _ _ 48 _ c.enter.ensures (entered c.enter.ensures ∙ c.requires.row) (grind arith) (grind arith) (grind arith) (grind arith)

pub enter-requires : goal.enter-requires
enter-requires c = node_left c.requires.due

pub pass-start-requires : goal.pass-start-requires
unfolding row_symbols
pass-start-requires c = token_left (taken 48 c.requires.due c.enter.ensures (entered c.enter.ensures ∙ c.requires.row))

pub analog-requires-clause-due : goal.analog-requires-clause-due
unfolding row_symbols
analog-requires-clause-due c = one_due (passed (taken 48 c.requires.due c.enter.ensures (entered c.enter.ensures ∙ c.requires.row)) c.pass-start.ensures)
