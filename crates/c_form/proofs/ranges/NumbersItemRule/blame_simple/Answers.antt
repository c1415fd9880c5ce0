use Rattle.std.proofs.Common.{ap}
use Rattle.c_raw.specs.Blocks.{simple_view}
use Rattle.c_form.specs.Parts.{simple_numbers}
use Rattle.c_form.proofs.Blaming.{blames_as}
use Rattle.c_form.proofs.ranges.NumbersItemRule.blame_simple.Goals as goal

pub returns : goal.returns
returns c = λ m e. blames_as c.simple_numbers.ensures (ap (λ x. simple_numbers x (simple_view c.args.statement.now)) e)
