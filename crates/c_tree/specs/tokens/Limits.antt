-- The limits of numbers in a C file. A number that is outside them begins no token.
use Rattle.std.specs.Prelude.{ℕ, Bool, true, false, not, ◌==◌, ◌&&◌, ◌||◌, nat_le, List, [], ◌∷◌, Option, Some, None, if◌then◌else◌, take, drop}
use Rattle.std.specs.Option.{is_some}
use Rattle.std.specs.List.{prefix_len}
use Rattle.va_base.specs.declared.exact.Decimal.{Decimal}
use Rattle.va_base.specs.Spelling.{is_digit, is_empty}
use Rattle.va_base.specs.Numerals.{decimal_of}

-- digits that are `0` or don't begin with `0`
abbrev pub has_no_leading_zero : List ℕ → Bool
has_no_leading_zero [] = true
has_no_leading_zero (c ∷ rest) = is_empty rest || not (c == 48)

-- a decimal with a mantissa of at most this
abbrev pub is_at_most : ℕ → Option Decimal → Bool
is_at_most limit None = false
is_at_most limit (Some d) = nat_le d.mantissa limit

-- the digits that a number begins with
abbrev pub digits_of : List ℕ → List ℕ
digits_of bytes = take (prefix_len is_digit bytes) bytes

-- what follows them
abbrev pub tail_of : List ℕ → List ℕ
tail_of bytes = drop (prefix_len is_digit bytes) bytes

-- the digits of a power under a `-`: they are not 0
abbrev pub is_plain_negative : List ℕ → Bool
is_plain_negative [] = false
is_plain_negative (c ∷ rest) = not (c == 48)

-- a power without a leading zero, and no `-0`
abbrev pub is_plain_power : List ℕ → Bool
is_plain_power [] = false
is_plain_power (c ∷ rest) = if c == 45 then is_plain_negative rest else has_no_leading_zero (c ∷ rest)

-- A number's digits and its tail keep it within the limits: an integer is at most 2147483647, an unsigned number at most
-- 4294967295, and a real is within the limits of a numeral of Verilog-A (Numbers).
abbrev pub is_tail_within : List ℕ → List ℕ → List ℕ → Bool
is_tail_within bytes digits [] = is_at_most 2147483647 (decimal_of digits)
is_tail_within bytes digits (c ∷ power) =
    if c == 117 then is_at_most 4294967295 (decimal_of digits) else is_plain_power power && is_some (decimal_of bytes)

-- a number within the limits, without a leading zero
abbrev pub is_within : List ℕ → Bool
is_within bytes = has_no_leading_zero (digits_of bytes) && is_tail_within bytes (digits_of bytes) (tail_of bytes)
