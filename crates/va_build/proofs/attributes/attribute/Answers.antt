use Rattle.std.proofs.Common.{arith, refl}
use Rattle.va_build.specs.Reading.{row_symbols}
use Rattle.va_build.specs.SourceItems.{attribute}
use Rattle.va_build.proofs.TakenRows.{read}
use Rattle.va_build.proofs.DueRows.{node_left, one_due, only, passed, taken_only, token_left}
use Rattle.va_build.proofs.attributes.attribute.Goals as goal

pub returns : goal.returns
unfolding row_symbols
returns c = read (attribute c.args.e.now) _ _ _ _ 10 _ c.enter.ensures (only 10 c.requires.due c.enter.ensures refl) (grind arith) (grind arith) (grind arith) (grind arith)

pub enter-requires : goal.enter-requires
enter-requires c = node_left c.requires.due

pub pass-at-requires : goal.pass-at-requires
unfolding row_symbols
pass-at-requires c = token_left (taken_only 10 c.requires.due c.enter.ensures refl)

pub attribute_value-requires-clause-due : goal.attribute_value-requires-clause-due
unfolding row_symbols
attribute_value-requires-clause-due c = one_due (passed (taken_only 10 c.requires.due c.enter.ensures refl) c.pass-at.ensures)
