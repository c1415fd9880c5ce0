-- What a numeral stands for (Numbers): a mantissa times a power of ten, both exact.
use Rattle.std.specs.Prelude.{◌≡◌, ◌⊎◌, ◌≤ℤ◌, ◌<ℤ◌, ℕ, ◌+◌, ◌-◌, ◌*◌, ◌^◌, ℤ, pos, negsuc, neg_ℤ, ◌-ℤ◌, int_le, Bool, ◌==◌, ◌&&◌, ◌||◌, nat_lt, List, [], ◌∷◌, Option, Some, None, unwrap_or, if◌then◌else◌, drop, fold, count_by}
use Rattle.std.specs.List.{prefix_len, take_while, after_first}
use Rattle.va_base.specs.declared.exact.Decimal.{Decimal}
use Rattle.va_base.specs.Spelling.{is_digit, is_digit_byte, scale_power, is_numeral}

-- the number that the digits among some bytes give
unfoldable pub number_of : List ℕ → ℕ
number_of = fold (λ number byte. if is_digit byte then 10 * number + (byte - 48) else number) 0

-- how many digits there are among some bytes
unfoldable pub digit_count : List ℕ → ℕ
digit_count = count_by is_digit

abbrev pub is_mantissa_byte : ℕ → Bool
is_mantissa_byte byte = is_digit_byte byte || byte == 46

-- a numeral's digits, with the point where it has one
abbrev pub mantissa_of : List ℕ → List ℕ
mantissa_of = take_while is_mantissa_byte

-- what follows them
abbrev pub tail_of : List ℕ → List ℕ
tail_of bytes = drop (prefix_len is_mantissa_byte bytes) bytes

-- what stands after the point
abbrev pub fraction_of : List ℕ → List ℕ
fraction_of = after_first (λ byte. byte == 46)

-- the whole number after `e`, under its sign
abbrev pub exponent_of : List ℕ → ℤ
exponent_of [] = pos 0
exponent_of (c ∷ rest) = if c == 45 then neg_ℤ (pos (number_of rest)) else pos (number_of (c ∷ rest))

-- the power of a scale factor, or the exponent
abbrev pub tail_power : List ℕ → ℤ
tail_power [] = pos 0
tail_power (c ∷ rest) = unwrap_or (scale_power c) (exponent_of rest)

-- an answer of a power, or none where the power's size is 2^65 or more
abbrev pub IsPower : Option ℤ → ℤ → Type 0
IsPower None power = (pos (2 ^ 65) ≤ℤ power) ⊎ (power ≤ℤ neg_ℤ (pos (2 ^ 65)))
IsPower (Some p) power = (p ≡ power) × (neg_ℤ (pos (2 ^ 65)) <ℤ p) × (p <ℤ pos (2 ^ 65))

-- The mantissa is the number that all digits give. The power is that of the tail, less the number of digits after the point.
unfoldable pub value_of : List ℕ → Decimal
value_of bytes = record {
  mantissa = number_of (mantissa_of bytes);
  power = tail_power (tail_of bytes) -ℤ pos (digit_count (fraction_of (mantissa_of bytes)));
}

-- from -9999 to 9999
abbrev pub is_power : ℤ → Bool
is_power power = int_le (negsuc 9998) power && int_le power (pos 9999)

-- a power where it lies there
abbrev pub power_limited : ℤ → Option ℤ
power_limited power = if is_power power then Some power else None

-- the limits of numerals
abbrev pub is_within_limits : Decimal → Bool
is_within_limits d = nat_lt d.mantissa (2 ^ 127) && is_power d.power

-- the decimal that some bytes stand for, where they are one numeral within the limits
unfoldable pub decimal_of : List ℕ → Option Decimal
decimal_of bytes = if is_numeral bytes && is_within_limits (value_of bytes) then Some (value_of bytes) else None
