-- What is known of the operators on integers.
use Rattle.std.specs.Prelude.{◌≡◌, ◌↔◌, true, ℤ, int_rem}
use Rattle.alg_laws.specs.declared.number.Reason.{Reason}
use Rattle.alg_laws.specs.Outcome.{Outcome, gives}
use Rattle.alg_laws.specs.IntegerOps.{in_range, int_sum, int_difference, int_product, int_negative, int_quotient, int_remainder, int_same}

-- what it gives lies in the 32 bits
abbrev pub InRange : Outcome Reason ℤ → Type 0
InRange r = (z : ℤ) → r ≡ gives z → in_range z ≡ true

-- Results lie in the 32 bits, the remainder is the one of a division that is truncated towards zero, and two integers are the
-- same exactly where they are equal.
pub record IntegerLaws : Type 0 where
  pub sum : (i j : ℤ) → InRange (int_sum i j)
  pub difference : (i j : ℤ) → InRange (int_difference i j)
  pub product : (i j : ℤ) → InRange (int_product i j)
  pub negative : (i : ℤ) → InRange (int_negative i)
  pub quotient : (i j : ℤ) → InRange (int_quotient i j)
  pub remainder : (i j : ℤ) → in_range j ≡ true → InRange (int_remainder i j)
  pub truncated : (i j q : ℤ) → int_quotient i j ≡ gives q → int_remainder i j ≡ gives (int_rem i j)
  pub same : (i j : ℤ) → (int_same i j ≡ true) ↔ (i ≡ j)
