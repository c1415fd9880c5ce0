use Rattle.std.proofs.Common.{◌≡◌, ◌<◌, ◌^◌, take}
use Rattle.va_base.specs.Numerals.{number_of}
use Rattle.va_base.proofs.numeral.number.Given as goal

abbrev pub invariant-loop-byte : goal.invariant-loop-byte
invariant-loop-byte l = record {
  value : l.number ≡ number_of (take l.byte-index l.bytes);
  small : l.number < 2 ^ 127;
}
