use Rattle.std.proofs.Common.{refl}
use Rattle.std.specs.Fmt.{digits}
use Rattle.c_tree.proofs.worked_form.names_worked_by_hand.Goals as goal

-- each row by computation
pub returns : goal.returns
unfolding digits
returns c = record {
  nothing = refl;
  module_number = refl;
  function_number = refl;
  descriptor_number = refl;
  no_field = refl;
  no_temperature_of_a_model = refl;
  flag_is_a_double = refl;
  field_twice = refl;
  own_right_side = refl;
  out_of_its_block = refl;
  declared_in_both_arms = refl;
  argument_of_no_function = refl;
  argument_twice = refl;
}
