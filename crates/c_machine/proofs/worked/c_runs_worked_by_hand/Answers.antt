use Rattle.std.proofs.Common.{refl}
use Rattle.std.specs.Fmt.{digits}
use Rattle.c_tree.specs.Blocks.{nested}
use Rattle.c_machine.proofs.worked.c_runs_worked_by_hand.Goals as goal

-- each row by computation
pub returns : goal.returns
unfolding digits nested
returns c = record {
  residuals = refl;
  each_load_adds = refl;
  at_one_place = refl;
  nothing_to_load = refl;
  entries = refl;
  right_side = refl;
  default = refl;
  reported = refl;
  not_reported = refl;
  last_setting = refl;
  no_row = refl;
  no_such_id = refl;
  setting_of_another_type = refl;
  collapses = refl;
  keeps_its_node = refl;
  flow = refl;
  short_solution = refl;
  before_evaluations = refl;
}
