use Rattle.std.proofs.Common.{refl}
use Rattle.std.specs.Fmt.{digits}
use Rattle.std.specs.Str.{is_utf8, chars}
use lib.Utf8.{encode}
use Rattle.va_sem.proofs.rules_worked.kinds_worked_by_hand.Goals as goal

-- each row by computation
pub returns : goal.returns
unfolding digits is_utf8 chars encode
returns c = record {
  flow_alone = refl;
  zero_under_a_fixed_condition = refl;
  zero_under_bias = refl;
  zero_under_bias_on_every_path = refl;
  zero_under_a_biased_variable = refl;
  signed_zero = refl;
  not_zero = refl;
  if_without_else = refl;
  if_with_else = refl;
  case_with_default = refl;
  loop = refl;
  zero_in_a_loop = refl;
  flow_of_a_zero_on_every_path = refl;
  collapse_probed = refl;
  first_contribution_of_either = refl;
  switch_branch = refl;
  flow_probe = refl;
  potential_at_the_final_step = refl;
}
