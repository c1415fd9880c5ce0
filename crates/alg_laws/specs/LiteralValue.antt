-- The value of a literal in any algebra (Numbers; Integer to real conversion).
use Rattle.std.specs.Prelude.{◌≡◌, ℕ, zero, suc, ℤ, pos, negsuc}
use Rattle.alg_laws.specs.Operations.{Operations, copies}
use Rattle.alg_laws.specs.Dual.{dual, lift}

-- y, with x taken n times as a factor
abbrev pub times_power : {V : Type 0} → Operations V → V → ℕ → V → V
times_power o x zero y = y
times_power o x (suc n) y = o.product (times_power o x n y) x

-- The value of a real numeral of mantissa m and power p, that is m times ten to the p (Numbers, with the scale factors): m
-- copies of 1, times ten copies of 1 for each step of p, or for a negative p times their reciprocal for each step.
abbrev pub literal_value : {V : Type 0} → Operations V → ℕ → ℤ → V
literal_value o m (pos p) = times_power o (copies o 10) p (copies o m)
literal_value o m (negsuc p) = times_power o (o.recip (copies o 10)) (suc p) (copies o m)

-- The value of an integer in a real place (Integer to real conversion): that many copies of 1, negated where it is negative.
abbrev pub whole_value : {V : Type 0} → Operations V → ℤ → V
whole_value o (pos n) = copies o n
whole_value o (negsuc n) = o.negative (copies o (suc n))

-- These values are valid.
pub record LiteralsAreValid (V : Type 0) (o : Operations V) (valid : V → Type 0) : Type 0 where
  pub copies_of_one : (n : ℕ) → valid (copies o n)
  pub literal : (m : ℕ) (p : ℤ) → valid (literal_value o m p)
  pub whole : (z : ℤ) → valid (whole_value o z)

-- Over the dual numbers they have the infinitesimal part 0: no literal moves with an unknown.
pub record LiteralsAreLifted (V : Type 0) (o : Operations V) (valid : V → Type 0) : Type 0 where
  pub copies_of_one : (n : ℕ) → copies (dual o) n ≡ lift o (copies o n)
  pub literal : (m : ℕ) (p : ℤ) → literal_value (dual o) m p ≡ lift o (literal_value o m p)
  pub whole : (z : ℤ) → whole_value (dual o) z ≡ lift o (whole_value o z)
