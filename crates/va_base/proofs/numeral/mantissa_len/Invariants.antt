use Rattle.std.proofs.Common.{◌≡◌, ◌<◌, ℕ, get_or}
use Rattle.std.specs.Prelude.{true}
use Rattle.va_base.specs.Numerals.{is_mantissa_byte}
use Rattle.va_base.proofs.numeral.mantissa_len.Given as goal

abbrev pub invariant-loop-at : goal.invariant-loop-at
invariant-loop-at l = (k : ℕ) → k < l.at → is_mantissa_byte (get_or l.bytes k 0) ≡ true
