use Rattle.std.proofs.Common.{refl}
use Rattle.std.specs.Fmt.{digits}
use Rattle.std.specs.Str.{is_utf8, chars}
use lib.Utf8.{encode}
use Rattle.va_sem.proofs.rules_worked.derivatives_worked_by_hand.Goals as goal

-- each row by computation
pub returns : goal.returns
unfolding digits is_utf8 chars encode
returns c = record {
  beside_a_biased_factor = refl;
  beside_a_fixed_factor = refl;
  denominator = refl;
  linear_places = refl;
  under_bias = refl;
  arms_under_bias = refl;
  in_a_loop = refl;
  in_the_head_of_a_loop = refl;
  in_a_function = refl;
  twice = refl;
  twice_at_one_token = refl;
  integer_variable = refl;
  timed_variable = refl;
  condition = refl;
  final_step = refl;
}
