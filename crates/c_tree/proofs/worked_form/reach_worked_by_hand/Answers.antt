use Rattle.std.proofs.Common.{refl}
use Rattle.std.specs.Fmt.{digits}
use Rattle.c_tree.proofs.worked_form.reach_worked_by_hand.Goals as goal

-- each row by computation
pub returns : goal.returns
unfolding digits
returns c = record {
  cell_in_an_arm = refl;
  cell_twice = refl;
  set_up_cell_in_an_evaluation = refl;
  flag_in_an_evaluation = refl;
  temperature = refl;
  instance_in_a_set_up_of_the_model = refl;
  solution_in_a_set_up_of_the_model = refl;
  solution_in_a_set_up = refl;
  cell_in_a_function = refl;
  report_in_an_evaluation = refl;
  report_in_a_set_up = refl;
  alpha_in_residuals = refl;
  vector_in_a_matrix = refl;
  integer_in_a_load = refl;
}
