-- What a numeral stands for, by what was found of it.
use Rattle.std.proofs.Common.{◌≡◌, ◌<◌, ◌^◌, ℕ, List, length, refl, ap, sym, ◌∙◌, arith, Option, Some, None, inl, inr, eqb}
use Rattle.std.specs.Prelude.{Bool, true, false, ◌&&◌, nat_lt, ℤ, pos, cond, ◌-ℤ◌}
use Rattle.std.proofs.lemmas.Bool.Decides.{eqb_tells}
use Rattle.std.proofs.lemmas.Int.{ints}
use Rattle.std.proofs.lemmas.Bool.{lt-ltb}
use Rattle.std.specs.Option.{option_eq}
use Rattle.std.proofs.Math.Seq.{take-length}
use borrow.Author.Tests.{ltb-true}
use Rattle.va_base.specs.declared.exact.Decimal.{Decimal}
use Rattle.va_base.specs.Longest.{longest, IsLongest}
use Rattle.va_base.specs.Spelling.{is_numeral}
use Rattle.va_base.specs.Numerals.{number_of, digit_count, mantissa_of, tail_of, fraction_of, tail_power, IsPower, is_power, power_limited, is_within_limits, value_of, decimal_of}
use Rattle.va_base.proofs.Longest.{longest_is, IsLongest-from, some_none, some_same}
use Rattle.va_base.proofs.Tests.{not_true, true_not_false, and_true, and_false}

first_fails : (a b : Bool) (x y : Option Decimal) → a ≡ false → cond (a && b) x y ≡ y
first_fails true b x y e = absurd (true_not_false refl e)
first_fails false b x y e = refl

second_fails : (a b : Bool) (x y : Option Decimal) → b ≡ false → cond (a && b) x y ≡ y
second_fails true true x y e = absurd (true_not_false refl e)
second_fails true false x y e = refl
second_fails false b x y e = refl

both_pass : (a b : Bool) (x y : Option Decimal) → a ≡ true → b ≡ true → cond (a && b) x y ≡ x
both_pass true true x y e f = refl
both_pass true false x y e f = absurd (true_not_false f refl)
both_pass false b x y e f = absurd (true_not_false e refl)

first_false : (a b : Bool) → a ≡ false → a && b ≡ false
first_false true b e = absurd (true_not_false refl e)
first_false false b e = refl

not_below : (m n : ℕ) → (m < n → ⊥) → nat_lt m n ≡ false
not_below m n h = not_true _ (λ e. h (ltb-true m n e))

-- the power of a numeral
abbrev pub power_of : List ℕ → ℤ
power_of bytes = tail_power (tail_of bytes) -ℤ pos (digit_count (fraction_of (mantissa_of bytes)))

value-mantissa : (bytes : List ℕ) → (value_of bytes).mantissa ≡ number_of (mantissa_of bytes)
unfolding value_of
value-mantissa bytes = refl

value-power : (bytes : List ℕ) → (value_of bytes).power ≡ power_of bytes
unfolding value_of
value-power bytes = refl

value-is : (bytes : List ℕ) → value_of bytes ≡ (let d : Decimal = record { mantissa = number_of (mantissa_of bytes); power = power_of bytes } in d)
unfolding value_of
value-is bytes = refl

pub decimal-not_numeral : (bytes : List ℕ) → is_numeral bytes ≡ false → decimal_of bytes ≡ None
unfolding decimal_of
decimal-not_numeral bytes e = first_fails (is_numeral bytes) (is_within_limits (value_of bytes)) (Some (value_of bytes)) None e

pub decimal-large : (bytes : List ℕ) → (number_of (mantissa_of bytes) < 2 ^ 127 → ⊥) → decimal_of bytes ≡ None
unfolding decimal_of
decimal-large bytes large =
    second_fails (is_numeral bytes) (is_within_limits (value_of bytes)) (Some (value_of bytes)) None
    (first_false _ (is_power (value_of bytes).power)
    (ap (λ m. nat_lt m (2 ^ 127)) (value-mantissa bytes) ∙ not_below (number_of (mantissa_of bytes)) (2 ^ 127) large))

pub decimal-power : (bytes : List ℕ) → is_power (power_of bytes) ≡ false → decimal_of bytes ≡ None
unfolding decimal_of
decimal-power bytes e =
    second_fails (is_numeral bytes) (is_within_limits (value_of bytes)) (Some (value_of bytes)) None
    (and_false (nat_lt (value_of bytes).mantissa (2 ^ 127)) (is_power (value_of bytes).power) (ap is_power (value-power bytes) ∙ e))

pub decimal-some : (bytes : List ℕ) → is_numeral bytes ≡ true → number_of (mantissa_of bytes) < 2 ^ 127 → is_power (power_of bytes) ≡ true
    → decimal_of bytes ≡ Some (let d : Decimal = record { mantissa = number_of (mantissa_of bytes); power = power_of bytes } in d)
unfolding decimal_of
decimal-some bytes e small p =
    both_pass (is_numeral bytes) (is_within_limits (value_of bytes)) (Some (value_of bytes)) None e
    (and_true (nat_lt (value_of bytes).mantissa (2 ^ 127)) (is_power (value_of bytes).power)
    (ap (λ m. nat_lt m (2 ^ 127)) (value-mantissa bytes) ∙ lt-ltb (number_of (mantissa_of bytes)) (2 ^ 127) small)
    (ap is_power (value-power bytes) ∙ p))
    ∙ ap (λ d. Some d) (value-is bytes)

power_some_at : (p q : ℤ) (b : Bool) → is_power p ≡ b → Some q ≡ cond b (Some p) None → (q ≡ p) × (is_power p ≡ true)
power_some_at p q true e f = (some_same f, e)
power_some_at p q false e f = absurd (some_none f)

power_none_at : (p : ℤ) (b : Bool) → is_power p ≡ b → None ≡ cond b (Some p) None → is_power p ≡ false
power_none_at p true e f = absurd (some_none (sym f))
power_none_at p false e f = e

-- a power of great size is not brought within the limits
pub power-far : (t : ℤ) (n : ℕ) → IsPower None t → n < 2 ^ 64 → is_power (t -ℤ pos n) ≡ false
power-far t n (inl high) lt = grind (arith, ints)
power-far t n (inr low) lt = grind (arith, ints)

-- some bytes are one numeral exactly where their longest numeral is all of them
pub numeral-whole : (bytes : List ℕ) → longest is_numeral bytes ≡ Some (length bytes) → is_numeral bytes ≡ true
numeral-whole bytes e =
    let l : IsLongest is_numeral bytes (length bytes) = IsLongest-from is_numeral bytes (length bytes) e in
    ap is_numeral (sym (take-length bytes)) ∙ l.passes

pub numeral-part : (bytes : List ℕ) → (longest is_numeral bytes ≡ Some (length bytes) → ⊥) → is_numeral bytes ≡ false
numeral-part bytes n = not_true _ (λ e. n (longest_is is_numeral bytes (length bytes) (record {
  within = omega arith;
  passes = ap is_numeral (take-length bytes) ∙ e;
  longer = λ m lt le. absurd (omega arith);
})))

pub numeral-test : (bytes : List ℕ) (r : Option ℕ) → r ≡ longest is_numeral bytes → option_eq eqb r (Some (length bytes)) ≡ is_numeral bytes
numeral-test bytes None e = sym (numeral-part bytes (λ w. some_none (sym w ∙ sym e)))
numeral-test bytes (Some n) e = elim (eqb_tells n (length bytes)) as (λ t. eqb n (length bytes) ≡ is_numeral bytes) [
  | inl w ↦ w.0 ∙ sym (numeral-whole bytes (sym e ∙ ap (λ k. Some k) w.1))
  | inr w ↦ w.0 ∙ sym (numeral-part bytes (λ all. w.1 (some_same (e ∙ all))))
]

-- the power of a numeral from its parts
pub power-parts : (digits tail bytes : List ℕ) → digits ≡ mantissa_of bytes → tail ≡ tail_of bytes
    → tail_power tail -ℤ pos (digit_count (fraction_of digits)) ≡ power_of bytes
power-parts digits tail bytes d t = rw (d, t) refl

pub power-some : (p q : ℤ) → Some q ≡ power_limited p → (q ≡ p) × (is_power p ≡ true)
power-some p q e = power_some_at p q (is_power p) refl e

pub power-none : (p : ℤ) → None ≡ power_limited p → is_power p ≡ false
power-none p e = power_none_at p (is_power p) refl e

pub decimal-same : {m n : ℕ} {p q : ℤ} → m ≡ n → p ≡ q
    → Some (let d : Decimal = record { mantissa = m; power = p } in d) ≡ Some (let d : Decimal = record { mantissa = n; power = q } in d)
decimal-same e f = cc
