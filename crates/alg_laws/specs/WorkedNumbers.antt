-- Rows that are worked out by hand: integers at the edges of their range, operators on values of both types, loops and least
-- sets.
use Rattle.std.specs.Prelude.{◌≡◌, ℕ, ◌-◌, Bool, true, false, ◌&&◌, ◌||◌, ℤ, pos, negsuc, nat_lt, ◌==◌, [], ◌∷◌}
use Rattle.alg_laws.specs.declared.number.Number.TheVariants.{Real, Int}
use Rattle.alg_laws.specs.declared.number.Reason.{Reason}
use Rattle.alg_laws.specs.declared.number.Reason.TheVariants.{Turns, IntRange}
use Rattle.alg_laws.specs.declared.number.Ty.TheVariants.{Integer, Real as RealTy}
use Rattle.alg_laws.specs.declared.function.Fun1.TheVariants.{Exp}
use Rattle.alg_laws.specs.declared.function.Fun2.TheVariants.{Hypot}
use Rattle.alg_laws.specs.Dual.{dual}
use Rattle.alg_laws.specs.IntegerOps.{int_sum, int_difference, int_product, int_negative, int_quotient, int_remainder, int_absolute, int_minimum, int_maximum}
use Rattle.alg_laws.specs.Least.{table, least}
use Rattle.alg_laws.specs.Loop.{while_turns}
use Rattle.alg_laws.specs.NumberOps.{converted, is_true, sum_of, difference_of, product_of, quotient_of, remainder_of, power_of, negative_of, is_less, is_at_most, is_same, contrary_of, both_of, either_of, absolute_of, minimum_of, maximum_of, fun1_of, fun2_of}
use Rattle.alg_laws.specs.Outcome.{Outcome, gives, ends, ◌>>=◌}
use Rattle.alg_laws.specs.Residue.{residue_ops}
use Rattle.alg_laws.specs.Whole.{whole_ops}
use Rattle.alg_laws.specs.Worked.{pair}

-- the least integer, -2147483648
abbrev pub lowest : ℤ
lowest = negsuc 2147483647

-- the greatest
abbrev pub highest : ℤ
highest = pos 2147483647

-- Integers at the edges of their range.
pub record WorkedIntegers : Type 0 where
  pub sum : int_sum (pos 2147483646) (pos 1) ≡ gives highest
  pub sum_above : int_sum highest (pos 1) ≡ ends IntRange
  pub sum_below : int_sum lowest (negsuc 0) ≡ ends IntRange
  pub sum_of_edges : int_sum highest lowest ≡ gives (negsuc 0)
  pub difference_below : int_difference lowest (pos 1) ≡ ends IntRange
  pub difference_above : int_difference (pos 0) lowest ≡ ends IntRange
  pub product_above : int_product (pos 65536) (pos 32768) ≡ ends IntRange
  pub product_lowest : int_product (pos 65536) (negsuc 32767) ≡ gives lowest
  pub negative_of_lowest : int_negative lowest ≡ ends IntRange
  pub negative_of_highest : int_negative highest ≡ gives (negsuc 2147483646)
  pub quotient_up : int_quotient (negsuc 6) (pos 2) ≡ gives (negsuc 2)
  pub quotient_down : int_quotient (pos 7) (negsuc 1) ≡ gives (negsuc 2)
  pub quotient_of_negatives : int_quotient (negsuc 6) (negsuc 1) ≡ gives (pos 3)
  pub quotient_by_zero : int_quotient (pos 7) (pos 0) ≡ ends IntRange
  pub quotient_of_lowest : int_quotient lowest (negsuc 0) ≡ ends IntRange
  pub quotient_of_lowest_by_one : int_quotient lowest (pos 1) ≡ gives lowest
  pub remainder_of_negative : int_remainder (negsuc 6) (pos 2) ≡ gives (negsuc 0)
  pub remainder_by_negative : int_remainder (pos 7) (negsuc 1) ≡ gives (pos 1)
  pub remainder_by_zero : int_remainder (pos 5) (pos 0) ≡ ends IntRange
  pub remainder_of_lowest : int_remainder lowest (negsuc 0) ≡ ends IntRange
  pub remainder_of_lowest_by_one : int_remainder lowest (pos 1) ≡ gives (pos 0)
  pub absolute_of_lowest : int_absolute lowest ≡ ends IntRange
  pub absolute_of_negative : int_absolute (negsuc 4) ≡ gives (pos 5)
  pub absolute_of_zero : int_absolute (pos 0) ≡ gives (pos 0)
  pub minimum : int_minimum (negsuc 0) (pos 0) ≡ negsuc 0
  pub maximum : int_maximum lowest highest ≡ highest

-- Operators on integers, on residues, and on one of each.
pub record WorkedNumbers : Type 0 where
  pub integer_quotient : quotient_of residue_ops (Int (pos 1)) (Int (pos 2)) ≡ gives (Int (pos 0))
  pub real_quotient : quotient_of residue_ops (Real 1) (Int (pos 2)) ≡ gives (Real 500002)
  pub mixed_sum : sum_of residue_ops (Int (negsuc 0)) (Real 2) ≡ gives (Real 1)
  pub integer_sum_above : sum_of residue_ops (Int highest) (Int (pos 1)) ≡ ends IntRange
  pub mixed_difference : difference_of residue_ops (Real 2) (Int (pos 3)) ≡ gives (Real 1000002)
  pub mixed_product : product_of residue_ops (Int (negsuc 1)) (Real 3) ≡ gives (Real 999997)
  pub integer_remainder : remainder_of residue_ops (Int (pos 7)) (Int (negsuc 3)) ≡ gives (Int (pos 3))
  pub power_of_integers_is_real : power_of residue_ops (Int (pos 2)) (Int (pos 3)) ≡ gives (Real 29)
  pub negative_of_real : negative_of residue_ops (Real 1) ≡ gives (Real 1000002)
  pub integers_differ : is_same residue_ops (Int (pos 1000003)) (Int (pos 0)) ≡ false
  pub mixed_sides_are_reals : (n : ℕ) → n ≡ 1000003 → is_same residue_ops (Int (pos n)) (Real 0) ≡ true
  pub integers_less : is_less residue_ops (Int (pos 600000)) (Int (pos 0)) ≡ false
  pub mixed_less : (n : ℕ) → n ≡ 600000 → is_less residue_ops (Int (pos n)) (Real 0) ≡ true
  pub reals_at_most : is_at_most residue_ops (Real 1000002) (Real 0) ≡ true
  pub integers_at_most : is_at_most residue_ops (Int (pos 3)) (Int (pos 2)) ≡ false
  pub real_zero_is_false : is_true residue_ops (Real 0) ≡ false
  pub real_is_true : is_true residue_ops (Real 1000002) ≡ true
  pub integer_zero_is_false : is_true residue_ops (Int (pos 0)) ≡ false
  pub integer_is_true : is_true residue_ops (Int (negsuc 0)) ≡ true
  pub residue_of_modulus_is_true : is_true residue_ops (Int (pos 1000003)) ≡ true
  pub contrary : contrary_of residue_ops (Real 0) ≡ Int (pos 1)
  pub both_skips : both_of residue_ops (Real 0) (ends IntRange) ≡ gives (Int (pos 0))
  pub both_asks : both_of residue_ops (Int (pos 2)) (gives (Real 5)) ≡ gives (Int (pos 1))
  pub either_skips : either_of residue_ops (Int (pos 2)) (ends IntRange) ≡ gives (Int (pos 1))
  pub either_asks : either_of residue_ops (Int (pos 0)) (ends IntRange) ≡ ends IntRange
  pub absolute : absolute_of residue_ops (Real 1000000) ≡ gives (Real 3)
  pub absolute_of_zero_turns_the_part : absolute_of (dual residue_ops) (Real (pair 0 1)) ≡ gives (Real (pair 0 1000002))
  pub minimum_is_real : minimum_of residue_ops (Int (pos 1)) (Real 2) ≡ Real 1
  pub minimum_of_equals_is_the_second : minimum_of (dual residue_ops) (Real (pair 3 1)) (Real (pair 3 2)) ≡ Real (pair 3 2)
  pub maximum_of_equals_is_the_second : maximum_of (dual residue_ops) (Real (pair 3 1)) (Real (pair 3 2)) ≡ Real (pair 3 2)
  pub maximum_of_integers : maximum_of residue_ops (Int (pos 600000)) (Int (pos 2)) ≡ Int (pos 600000)
  pub function_of_integer : fun1_of residue_ops Exp (Int (pos 3)) ≡ Real 10
  pub function_of_both : fun2_of residue_ops Hypot (Int (pos 3)) (Real 5) ≡ Real 45
  pub into_integer : (quotient_of residue_ops (Real 6) (Int (pos 4)) >>= converted residue_ops Integer)
      ≡ gives (Int (negsuc 499999))
  pub into_real : converted residue_ops RealTy (Int (negsuc 1)) ≡ gives (Real 1000001)
  pub into_integer_above : converted whole_ops Integer (Real (pos 2147483648)) ≡ ends IntRange
  pub into_integer_lowest : converted whole_ops Integer (Real lowest) ≡ gives (Int lowest)

-- a loop that counts down to 0
abbrev pub countdown : ℕ → ℕ → Outcome Reason ℕ
countdown n s = while_turns Turns (λ s. gives (nat_lt 0 s)) (λ s. gives (s - 1)) n s

-- 0 is in the set, 1 follows from 0, 2 from 1, 4 from 5 and 5 from 4
abbrev pub follows : (ℕ → Bool) → ℕ → Bool
follows set x = x == 0 || (x == 1 && set 0) || (x == 2 && set 1) || (x == 4 && set 5) || (x == 5 && set 4)

-- Loops, and the least set of these rules.
pub record WorkedLoops : Type 0 where
  pub enough_turns : countdown 3 3 ≡ gives 0
  pub one_turn_short : countdown 2 3 ≡ ends Turns
  pub no_turn_needed : countdown 0 0 ≡ gives 0
  pub no_turn_allowed : countdown 0 1 ≡ ends Turns
  pub undefined_turn_comes_first : while_turns Turns (λ (s : ℕ). gives true) (λ s. ends IntRange) 1 0 ≡ ends IntRange
  pub undefined_turn_is_not_made : while_turns Turns (λ (s : ℕ). gives true) (λ s. ends IntRange) 0 0 ≡ ends Turns
  pub undefined_test_comes_first : while_turns Turns (λ (s : ℕ). ends IntRange) (λ s. gives s) 0 0 ≡ ends IntRange
  pub least_set : table 6 (least 6 follows) ≡ true ∷ true ∷ true ∷ false ∷ false ∷ false ∷ []
