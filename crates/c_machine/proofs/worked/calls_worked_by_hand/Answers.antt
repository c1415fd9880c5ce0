use Rattle.std.proofs.Common.{refl}
use Rattle.std.specs.Fmt.{digits}
use Rattle.c_tree.specs.Blocks.{nested}
use Rattle.c_machine.proofs.worked.calls_worked_by_hand.Goals as goal

-- each row by computation
pub returns : goal.returns
unfolding digits nested
returns c = record {
  a_run = refl;
  no_round = refl;
  no_evaluation = refl;
  load_first = refl;
  late_setting = refl;
  no_set_up = refl;
  its_own = refl;
  of_the_model = refl;
}
