use Rattle.std.specs.Prelude.{◌≡◌, drop}
use Rattle.std.specs.List.{list_all}
use Rattle.va_base.specs.Spelling.{is_digit_byte}
use Rattle.va_build.proofs.read_names.are_digits.Given as goal

abbrev pub invariant-loop-byte : goal.invariant-loop-byte
invariant-loop-byte l = list_all is_digit_byte l.bytes ≡ list_all is_digit_byte (drop l.byte-index l.bytes)
