use Rattle.std.proofs.Common.{refl}
use Rattle.std.specs.Fmt.{digits}
use Rattle.c_tree.proofs.worked_form.numbers_worked_by_hand.Goals as goal

-- each row by computation
pub returns : goal.returns
unfolding digits
returns c = record {
  node_out_of_range = refl;
  flag_out_of_range = refl;
  id_out_of_range = refl;
  entry_out_of_range = refl;
  access_out_of_range = refl;
  instance_behind_model = refl;
  array_size = refl;
  no_offset = refl;
  offset_of_another = refl;
  entry_of_the_reference = refl;
  too_many_ports = refl;
  number_of_parameters = refl;
  number_of_instance_parameters = refl;
  number_of_descriptors = refl;
  no_descriptor = refl;
  least = refl;
}
