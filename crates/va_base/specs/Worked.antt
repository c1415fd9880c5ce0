-- Rows that were worked out by hand: what some texts stand for as numerals, and which fault comes first.
use Rattle.std.specs.Prelude.{◌≡◌, ◌^◌, ◌-◌, ℕ, ℤ, pos, negsuc, Option, Some, None, codes}
use Rattle.va_base.specs.declared.exact.Decimal.{Decimal}
use Rattle.va_base.specs.Numerals.{decimal_of}

-- a mantissa and a power of ten
abbrev pub decimal_from : ℕ → ℤ → Option Decimal
decimal_from m p = Some (let d : Decimal = record { mantissa = m; power = p } in d)

pub record WorkedDecimals : Type 0 where
  -- the mantissa is what all digits give; digits after the point lower the power
  pub scaled : decimal_of (codes "1.5m") ≡ decimal_from 15 (negsuc 3)
  pub grouped : decimal_of (codes "150_0u") ≡ decimal_from 1500 (negsuc 5)
  pub exponent : decimal_of (codes "1e-3") ≡ decimal_from 1 (negsuc 2)
  pub zeros_count : decimal_of (codes "1.50") ≡ decimal_from 150 (negsuc 1)
  pub whole : decimal_of (codes "0") ≡ decimal_from 0 (pos 0)
  pub leading_zeros : decimal_of (codes "007") ≡ decimal_from 7 (pos 0)
  pub signed_exponent : decimal_of (codes "2.5E+6") ≡ decimal_from 25 (pos 5)
  pub long_exponent : decimal_of (codes "1e0_0_7") ≡ decimal_from 1 (pos 7)
  pub groups_after_point : decimal_of (codes "1.0_0_1") ≡ decimal_from 1001 (negsuc 2)
  pub two_underscores : decimal_of (codes "1__0") ≡ decimal_from 10 (pos 0)
  -- the scale factors
  pub tera : decimal_of (codes "1T") ≡ decimal_from 1 (pos 12)
  pub giga : decimal_of (codes "1G") ≡ decimal_from 1 (pos 9)
  pub mega : decimal_of (codes "1M") ≡ decimal_from 1 (pos 6)
  pub kilo : decimal_of (codes "1K") ≡ decimal_from 1 (pos 3)
  pub small_kilo : decimal_of (codes "1k") ≡ decimal_from 1 (pos 3)
  pub milli : decimal_of (codes "1m") ≡ decimal_from 1 (negsuc 2)
  pub micro : decimal_of (codes "1u") ≡ decimal_from 1 (negsuc 5)
  pub nano : decimal_of (codes "1n") ≡ decimal_from 1 (negsuc 8)
  pub pico : decimal_of (codes "1p") ≡ decimal_from 1 (negsuc 11)
  pub femto : decimal_of (codes "1f") ≡ decimal_from 1 (negsuc 14)
  pub atto : decimal_of (codes "1a") ≡ decimal_from 1 (negsuc 17)
  -- what is no numeral
  pub empty : decimal_of (codes "") ≡ None
  pub point_at_end : decimal_of (codes "1.") ≡ None
  pub point_at_front : decimal_of (codes ".5") ≡ None
  pub underscore_at_end : decimal_of (codes "1_") ≡ None
  pub underscore_at_front : decimal_of (codes "_1") ≡ None
  pub underscore_at_point : decimal_of (codes "1_.5") ≡ None
  pub exponent_without_digits : decimal_of (codes "1e") ≡ None
  pub exponent_with_scale : decimal_of (codes "1e3m") ≡ None
  pub two_scales : decimal_of (codes "1mm") ≡ None
  pub unknown_scale : decimal_of (codes "1x") ≡ None
  pub sign : decimal_of (codes "-1") ≡ None
  pub two_points : decimal_of (codes "1.2.3") ≡ None
  pub space : decimal_of (codes "1 ") ≡ None
  -- the limits, and one past each
  pub largest : decimal_of (codes "170141183460469231731687303715884105727") ≡ decimal_from (2 ^ 127 - 1) (pos 0)
  pub too_large : decimal_of (codes "170141183460469231731687303715884105728") ≡ None
  pub highest_power : decimal_of (codes "1e9999") ≡ decimal_from 1 (pos 9999)
  pub too_high : decimal_of (codes "1e10000") ≡ None
  pub lowered : decimal_of (codes "1.5e10000") ≡ decimal_from 15 (pos 9999)
  pub lowest_power : decimal_of (codes "1e-9999") ≡ decimal_from 1 (negsuc 9998)
  pub too_low : decimal_of (codes "1e-10000") ≡ None
  pub lowered_too_far : decimal_of (codes "1.5e-9999") ≡ None
