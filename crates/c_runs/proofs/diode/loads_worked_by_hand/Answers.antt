use Rattle.std.proofs.Common.{refl}
use Rattle.std.specs.Fmt.{digits}
use Rattle.c_tree.specs.Blocks.{nested}
use Rattle.c_runs.proofs.diode.loads_worked_by_hand.Goals as goal

-- each row by computation
pub returns : goal.returns
unfolding digits nested
returns c = record {
  residuals = refl;
  reactive_residuals = refl;
  entries = refl;
  reactive_entries = refl;
  entries_in_time = refl;
  right_side = refl;
  right_side_in_time = refl;
  all_together = refl;
  a_run = refl;
  residuals_as_one = refl;
  entries_as_one = refl;
}
