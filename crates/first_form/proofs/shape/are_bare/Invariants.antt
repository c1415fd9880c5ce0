use Rattle.std.proofs.Common.{◌≡◌, drop}
use Rattle.first_form.specs.Form.{are_bare}
use Rattle.first_form.proofs.shape.are_bare.Given as goal

abbrev pub invariant-loop-item : goal.invariant-loop-item
invariant-loop-item l = are_bare l.items ≡ are_bare (drop l.item-index l.items)
