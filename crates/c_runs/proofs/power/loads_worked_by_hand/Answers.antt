use Rattle.std.proofs.Common.{refl}
use Rattle.std.specs.Fmt.{digits}
use Rattle.c_tree.specs.Blocks.{nested}
use Rattle.c_runs.proofs.power.loads_worked_by_hand.Goals as goal

-- each row by computation
pub returns : goal.returns
unfolding digits nested
returns c = record {
  residual = refl;
  no_reactive_residual = refl;
  entry = refl;
  no_reactive_entry = refl;
  entry_in_time = refl;
  right_side = refl;
  right_side_in_time = refl;
  all_together = refl;
  a_run = refl;
  before_evaluations = refl;
}
