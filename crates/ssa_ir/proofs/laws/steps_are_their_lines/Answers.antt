use Rattle.ssa_ir.proofs.LawsProved.{steps_are_their_lines}
use Rattle.ssa_ir.proofs.laws.steps_are_their_lines.Goals as goal

pub returns : goal.returns
returns c = steps_are_their_lines
