use Rattle.std.proofs.Common.{refl}
use Rattle.std.specs.Fmt.{digits}
use Rattle.c_tree.specs.Blocks.{nested}
use Rattle.c_runs.proofs.diode.evaluations_worked_by_hand.Goals as goal

-- each row by computation
pub returns : goal.returns
unfolding digits nested
returns c = record {
  given = refl;
  set_up_as_one = refl;
  evaluated_as_one = refl;
  defaults = refl;
  asked_of_the_instance = refl;
  below_zero_is_reported = refl;
  zero_is_not = refl;
  nor_is_the_default = refl;
  no_such_parameter = refl;
  short_solution = refl;
}
