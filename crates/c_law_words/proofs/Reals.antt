-- The reals of a text, as `15e-4`.
use Rattle.std.proofs.Common.{◌≡◌, ◌<◌, ◌≤◌, ◌+◌, ◌^◌, ℕ, suc, List, [], ◌∷◌, ◌++◌, refl, ap, sym, subst, ◌∙◌, arith, append_assoc, Some}
use Rattle.std.specs.Prelude.{Bool, true, false, not, ◌==◌, if◌then◌else◌, nat_lt, decimal, pos, negsuc, ℤ, neg_ℤ, ◌-ℤ◌, int_le, codes}
use Rattle.std.specs.List.{list_all}
use Rattle.std.specs.Option.{is_some}
use Rattle.std.proofs.lemmas.Bool.{and_parts, and_from, ltb-true}
use Rattle.std.proofs.lemmas.Bool.Decides.{nat_tests}
use Rattle.std.proofs.lemmas.Int.{ints}
use Rattle.va_base.specs.declared.exact.Decimal.{Decimal}
use Rattle.va_base.specs.Spelling.{is_digit, is_empty, are_some, is_sign, is_exponent, are_digits, begins}
use Rattle.va_base.specs.Numerals.{exponent_of, is_power, is_within_limits, decimal_of}
use Rattle.va_base.proofs.Tests.{true_not_false}
use Rattle.c_tree.specs.Words.{real_word, power_digits}
use Rattle.c_tree.specs.tokens.Spelling as spelling
use Rattle.c_tree.specs.tokens.Limits.{is_plain_power, is_plain_negative}
use Rattle.c_syntax.proofs.Longest.{cond_false}
use Rattle.c_syntax.specs.grammar.Kinds.{kind_of}
use Rattle.c_law_words.proofs.Digits.{IsDecimal, is_nonzero, decimal_written}
use Rattle.c_law_words.proofs.Numbers.{digits_are, number_alone, numeral, value_found}
use Rattle.c_law_words.proofs.Pieces.{IsWord}

-- the power of ten behind an `e`
record PowerWritten (rest : List ℕ) (power : ℤ) : Type 0 where
  token : spelling.is_power rest ≡ true
  plain : is_plain_power rest ≡ true
  exponent : is_exponent rest ≡ true
  value : exponent_of rest ≡ power

no_minus : (c : ℕ) → is_digit c ≡ true → (c == 45) ≡ false
no_minus c h = grind (arith, nat_tests)

no_sign : (c : ℕ) → is_digit c ≡ true → is_sign c ≡ false
no_sign c h = grind (arith, nat_tests)

plain_power : (n : ℕ) (ds : List ℕ) → IsDecimal n ds → PowerWritten ds (pos n)
plain_power n [] d = absurd (true_not_false d.some refl)
plain_power n (c ∷ ds) d =
    record {
      token = cond_is (c == 45) (no_minus c d.some) (and_from (not (is_empty (c ∷ ds))) (list_all is_digit (c ∷ ds)) refl d.digits);
      plain = cond_false (c == 45) (is_plain_negative ds) _ (no_minus c d.some) ∙ d.plain;
      exponent = signless (is_sign c) (no_sign c d.some);
      value = cond_false (c == 45) _ _ (no_minus c d.some) ∙ ap pos d.value;
    }
  where
    cond_is : (b : Bool) → b ≡ false → are_some is_digit (c ∷ ds) ≡ true → are_some is_digit (if b then ds else c ∷ ds) ≡ true
    cond_is true e h = absurd (true_not_false refl e)
    cond_is false e h = h

    signless : (b : Bool) → b ≡ false → are_digits (if b then ds else c ∷ ds) ≡ true
    signless true e = absurd (true_not_false refl e)
    signless false e = digits_are (c ∷ ds) d.digits d.some

not_empty : (ds : List ℕ) → begins is_digit ds ≡ true → not (is_empty ds) ≡ true
not_empty [] h = absurd (true_not_false h refl)
not_empty (d ∷ ds) h = refl

plain_negative : (ds : List ℕ) → begins is_nonzero ds ≡ true → is_plain_negative ds ≡ true
plain_negative [] h = absurd (true_not_false h refl)
plain_negative (d ∷ ds) h = h

minus_power : (n : ℕ) (ds : List ℕ) → IsDecimal (suc n) ds → PowerWritten (45 ∷ ds) (negsuc n)
minus_power n ds d =
    record {
      token = and_from (not (is_empty ds)) (list_all is_digit ds) (not_empty ds d.some) d.digits;
      plain = plain_negative ds (d.nonzero (omega arith));
      exponent = digits_are ds d.digits d.some;
      value = ap (λ m. neg_ℤ (pos m)) d.value;
    }

power_written : (power : ℤ) → is_power power ≡ true → PowerWritten (power_digits power) power
power_written (pos n) h =
    let p = and_parts (int_le (negsuc 9998) (pos n)) (int_le (pos n) (pos 9999)) h in
    plain_power n (decimal n) (decimal_written n (few n p.1))
  where
    few : (m : ℕ) → int_le (pos m) (pos 9999) ≡ true → m < 10 ^ 64
    few m e = let least : m ≤ 9999 = grind (arith, nat_tests, ints) in omega (arith, least)
power_written (negsuc n) h =
    let p = and_parts (int_le (negsuc 9998) (negsuc n)) (int_le (negsuc n) (pos 9999)) h in
    minus_power n (decimal (suc n)) (decimal_written (suc n) (few n p.0))
  where
    few : (m : ℕ) → int_le (negsuc 9998) (negsuc m) ≡ true → suc m < 10 ^ 64
    few m e = let least : m ≤ 9998 = grind (arith, nat_tests, ints) in omega (arith, least)

less_zero : (z : ℤ) → z -ℤ pos 0 ≡ z
less_zero z = omega (arith, ints)

-- the digits of the mantissa, and what stands behind them
record RealWritten (d : Decimal) : Type 0 where
  mantissa : IsDecimal d.mantissa (decimal d.mantissa)
  power : PowerWritten (power_digits d.power) d.power
  value : decimal_of (decimal d.mantissa ++ 101 ∷ power_digits d.power) ≡ Some d

real_written : (d : Decimal) → is_within_limits d ≡ true → RealWritten d
real_written d h =
    let p = and_parts (nat_lt d.mantissa (2 ^ 127)) (is_power d.power) h in
    let less : d.mantissa < 2 ^ 127 = ltb-true d.mantissa (2 ^ 127) p.0 in
    let m = decimal_written d.mantissa (omega (arith, less)) in
    let e = power_written d.power p.1 in
    record {
      mantissa = m;
      power = e;
      value = value_found (decimal d.mantissa) (101 ∷ power_digits d.power) d.power m.digits m.some refl refl e.exponent
          (let value = m.value in subst (λ n. n < 2 ^ 127) (sym value) less) (ap (λ z. z -ℤ pos 0) e.value ∙ less_zero d.power) p.1
          ∙ ap (λ n. Some (let v : Decimal = record { mantissa = n; power = d.power } in v)) m.value;
    }

real_split : (d : Decimal) → real_word d.mantissa d.power ≡ decimal d.mantissa ++ 101 ∷ power_digits d.power
real_split d = append_assoc (decimal d.mantissa) (codes "e") (power_digits d.power)

-- the word of a real gives it back
pub real_value : (d : Decimal) → is_within_limits d ≡ true → decimal_of (real_word d.mantissa d.power) ≡ Some d
real_value d h = ap decimal_of (real_split d) ∙ (real_written d h).value

pub real_named : (d : Decimal) → is_within_limits d ≡ true → IsWord 10 (real_word d.mantissa d.power)
real_named d h =
    let r = real_written d h in
    let bytes = decimal d.mantissa ++ 101 ∷ power_digits d.power in
    let alone = number_alone (decimal d.mantissa) (101 ∷ power_digits d.power) r.mantissa.digits r.mantissa.some refl r.power.token r.mantissa.plain
    (and_from (is_plain_power (power_digits d.power)) (is_some (decimal_of bytes)) r.power.plain (ap is_some r.value)) in
    let kind = (numeral (decimal d.mantissa) (101 ∷ power_digits d.power) r.mantissa.digits r.mantissa.some refl).kind in
    let word : IsWord 10 bytes = record { alone = alone; kind_is = ap (λ k. kind_of k bytes) kind } in
    subst (λ w. IsWord 10 w) (sym (real_split d)) word
