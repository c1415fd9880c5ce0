use Rattle.std.proofs.Common.{refl}
use Rattle.first_form.proofs.worked.items_worked_by_hand.Goals as goal

pub returns : goal.returns
returns c = record {
  ports_exchanged = refl;
  with_a_discipline = refl;
  input = refl;
  one_port = refl;
  three_nodes = refl;
  another_discipline = refl;
  resistance_named = refl;
  local = refl;
  integer = refl;
  without_a_type = refl;
  two_in_one_item = refl;
  with_a_range = refl;
  a_name_as_default = refl;
  a_real_default = refl;
  potential_contributed = refl;
  one_node = refl;
  nodes_exchanged = refl;
  an_assignment = refl;
  an_attribute = refl;
  access = refl;
  flow_access = refl;
  discipline = refl;
  other_case = refl;
}
