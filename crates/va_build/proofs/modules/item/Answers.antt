use Rattle.std.proofs.Common.{refl}
use Rattle.va_build.specs.Reading.{row_symbols}
use Rattle.va_build.proofs.ItemRows.{item_read}
use Rattle.va_build.proofs.DueRows.{as_row, behind, node_left, one_due, only, taken_only}
use Rattle.va_build.proofs.modules.item.Goals as goal

pub returns : goal.returns
unfolding row_symbols
returns c = item_read c.args.e.now _ _ _ _ 39 _ _ _ _ _ (as_row 39 c.enter.ensures (only 39 c.requires.due c.enter.ensures refl)) refl c.in_ok-attributes.ensures c.in_ok-body.ensures c.new.ensures

pub enter-requires : goal.enter-requires
enter-requires c = node_left c.requires.due

pub attribute_groups-requires-clause-due : goal.attribute_groups-requires-clause-due
unfolding row_symbols
attribute_groups-requires-clause-due c = one_due (taken_only 39 c.requires.due c.enter.ensures refl)

pub item_body-requires-clause-due : goal.item_body-requires-clause-due
unfolding row_symbols
item_body-requires-clause-due c = one_due (behind (taken_only 39 c.requires.due c.enter.ensures refl) c.in_ok-attributes.ensures)
