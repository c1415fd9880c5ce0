use Rattle.std.proofs.Common.{refl}
use Rattle.std.specs.Fmt.{digits}
use Rattle.c_tree.proofs.worked_form.settings_worked_by_hand.Goals as goal

-- each row by computation
pub returns : goal.returns
unfolding digits
returns c = record {
  join_in_order = refl;
  arm_without = refl;
  arm_with_two = refl;
  inner_setting = refl;
  setting_behind = refl;
  read_too_early = refl;
  no_choice = refl;
  constant_again = refl;
  declared_again = refl;
  declared_in_each_arm = refl;
  head_in_order = refl;
  before_the_break = refl;
  turn_without = refl;
  no_loop = refl;
  no_break = refl;
  two_breaks = refl;
  break_in_an_arm = refl;
  head_without_break = refl;
}
