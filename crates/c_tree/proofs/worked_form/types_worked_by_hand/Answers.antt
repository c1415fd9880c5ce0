use Rattle.std.proofs.Common.{refl}
use Rattle.std.specs.Fmt.{digits}
use Rattle.c_tree.proofs.worked_form.types_worked_by_hand.Goals as goal

-- each row by computation
pub returns : goal.returns
unfolding digits
returns c = record {
  sum_in_order = refl;
  comparison_in_order = refl;
  two_types = refl;
  declared_type = refl;
  comparison_is_an_integer = refl;
  remainder_of_doubles = refl;
  contrary_of_a_double = refl;
  cast_of_a_double = refl;
  rounded_integer = refl;
  test_of_a_double = refl;
  cell_of_another_type = refl;
  flag_from_a_double = refl;
  result_of_another_type = refl;
  missing_operand = refl;
  argument_of_another_type = refl;
  call_in_order = refl;
  too_many_arguments = refl;
  no_function = refl;
  calls_itself = refl;
}
