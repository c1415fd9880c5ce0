-- The operators on integers of 32 bits (Operators), which are undefined where the result has no place in them.
use Rattle.std.specs.Prelude.{◌^◌, zero, suc, Bool, ℤ, pos, negsuc, ◌+ℤ◌, ◌-ℤ◌, ◌*ℤ◌, neg_ℤ, int_div, int_lt, nat_lt, if◌then◌else◌}
use Rattle.std.specs.Ordering.{int_eq}
use Rattle.alg_laws.specs.declared.number.Reason.{Reason}
use Rattle.alg_laws.specs.declared.number.Reason.TheVariants.{IntRange}
use Rattle.alg_laws.specs.Outcome.{Outcome, gives, ends, ◌>>=◌}

-- Integers lie in -2147483648 to 2147483647.
abbrev pub in_range : ℤ → Bool
in_range (pos n) = nat_lt n (2 ^ 31)
in_range (negsuc n) = nat_lt n (2 ^ 31)

-- A whole number as an integer.
abbrev pub ranged : ℤ → Outcome Reason ℤ
ranged z = if in_range z then gives z else ends IntRange

abbrev pub int_sum : ℤ → ℤ → Outcome Reason ℤ
int_sum i j = ranged (i +ℤ j)

abbrev pub int_difference : ℤ → ℤ → Outcome Reason ℤ
int_difference i j = ranged (i -ℤ j)

abbrev pub int_product : ℤ → ℤ → Outcome Reason ℤ
int_product i j = ranged (i *ℤ j)

abbrev pub int_negative : ℤ → Outcome Reason ℤ
int_negative i = ranged (neg_ℤ i)

-- A quotient is truncated towards zero, and undefined at the divisor 0.
abbrev pub int_quotient : ℤ → ℤ → Outcome Reason ℤ
int_quotient i (pos zero) = ends IntRange
int_quotient i (pos (suc n)) = ranged (int_div i (pos (suc n)))
int_quotient i (negsuc n) = ranged (int_div i (negsuc n))

-- i % j is i - j * (i / j), and undefined where the quotient is. It is nearer to 0 than j, so it never leaves the range.
abbrev pub int_remainder : ℤ → ℤ → Outcome Reason ℤ
int_remainder i j = do
  quotient ← int_quotient i j
  gives (i -ℤ j *ℤ quotient)

-- i == j
abbrev pub int_same : ℤ → ℤ → Bool
int_same i j = int_eq i j

-- i > 0 ? i : -i
abbrev pub int_absolute : ℤ → Outcome Reason ℤ
int_absolute i = if int_lt (pos 0) i then gives i else int_negative i

-- i < j ? i : j
abbrev pub int_minimum : ℤ → ℤ → ℤ
int_minimum i j = if int_lt i j then i else j

-- i > j ? i : j
abbrev pub int_maximum : ℤ → ℤ → ℤ
int_maximum i j = if int_lt j i then i else j
