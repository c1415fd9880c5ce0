use Rattle.std.proofs.Common.{refl}
use Rattle.std.specs.Fmt.{digits}
use Rattle.c_tree.specs.Blocks.{nested}
use Rattle.c_machine.proofs.worked.bodies_worked_by_hand.Goals as goal

-- each row by computation
pub returns : goal.returns
unfolding digits nested
returns c = record {
  loop_ends = refl;
  turn_short = refl;
  before_the_test = refl;
  turn_too_many_comes_first = refl;
  arm = refl;
  integer_quotient = refl;
  no_local = refl;
  no_value = refl;
  no_cell = refl;
  no_function = refl;
  no_reports = refl;
  two_types = refl;
  another_type = refl;
}
