use Rattle.std.proofs.Common.{take}
use Rattle.first_form.specs.Reading.{HasNames}
use Rattle.first_form.proofs.form.parameters.Given as goal

abbrev pub invariant-loop-item : goal.invariant-loop-item
invariant-loop-item l = HasNames l.first l.second (take l.item-index l.items) l.names
