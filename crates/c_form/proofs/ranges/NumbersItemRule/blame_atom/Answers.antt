use Rattle.std.proofs.Common.{ap}
use Rattle.c_raw.specs.Blocks.{at_view}
use Rattle.c_form.specs.Parts.{unknown_number}
use Rattle.c_form.proofs.Blaming.{blames_as}
use Rattle.c_form.proofs.ranges.NumbersItemRule.blame_atom.Goals as goal

pub returns : goal.returns
returns c = λ m e. blames_as c.unknown.ensures (ap (λ x. unknown_number x (at_view c.args.atom)) e)
