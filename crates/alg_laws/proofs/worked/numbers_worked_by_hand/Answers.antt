-- Computed, but for copies of 1, which aren't counted out.
use Rattle.std.proofs.Common.{refl, ap, ◌∙◌}
use Rattle.std.specs.Prelude.{◌%◌}
use Rattle.alg_laws.specs.Residue.{modulus, residue_ops}
use Rattle.alg_laws.specs.ResidueLaws.{residue_copies}
use Rattle.alg_laws.proofs.worked.numbers_worked_by_hand.Goals as goal

pub returns : goal.returns
returns c = record {
  integer_quotient = refl;
  real_quotient = refl;
  mixed_sum = refl;
  integer_sum_above = refl;
  mixed_difference = refl;
  mixed_product = refl;
  integer_remainder = refl;
  power_of_integers_is_real = refl;
  negative_of_real = refl;
  integers_differ = refl;
  mixed_sides_are_reals = λ n e. ap (λ t. residue_ops.same t 0) (residue_copies n ∙ ap (λ t. t % modulus) e);
  integers_less = refl;
  mixed_less = λ n e. ap (λ t. residue_ops.less t 0) (residue_copies n ∙ ap (λ t. t % modulus) e);
  reals_at_most = refl;
  integers_at_most = refl;
  real_zero_is_false = refl;
  real_is_true = refl;
  integer_zero_is_false = refl;
  integer_is_true = refl;
  residue_of_modulus_is_true = refl;
  contrary = refl;
  both_skips = refl;
  both_asks = refl;
  either_skips = refl;
  either_asks = refl;
  absolute = refl;
  absolute_of_zero_turns_the_part = refl;
  minimum_is_real = refl;
  minimum_of_equals_is_the_second = refl;
  maximum_of_equals_is_the_second = refl;
  maximum_of_integers = refl;
  function_of_integer = refl;
  function_of_both = refl;
  into_integer = refl;
  into_real = refl;
  into_integer_above = refl;
  into_integer_lowest = refl;
}
