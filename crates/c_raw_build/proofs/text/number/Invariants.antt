use Rattle.std.specs.Prelude.{◌≡◌, drop, fold, ◌*◌, ◌+◌, ◌-◌, if◌then◌else◌}
use Rattle.va_base.specs.Numerals.{number_of}
use Rattle.va_base.specs.Spelling.{is_digit}
use Rattle.c_raw_build.proofs.text.number.Given as goal

abbrev pub invariant-loop-byte : goal.invariant-loop-byte
invariant-loop-byte l = number_of l.bytes ≡ fold (λ number byte. if is_digit byte then 10 * number + (byte - 48) else number) l.number (drop l.byte-index l.bytes)
