use Rattle.std.proofs.Common.{refl}
use Rattle.std.specs.Fmt.{digits}
use Rattle.std.specs.Str.{is_utf8, chars}
use lib.Utf8.{encode}
use Rattle.va_preproc.proofs.worked.includes_worked_by_hand.Goals as goal

-- each row by computation
pub returns : goal.returns
unfolding digits is_utf8 chars encode
returns c = record {
  line_goes_on = refl;
  skipped = refl;
  folder = refl;
  missing = refl;
  itself = refl;
  no_utf8 = refl;
  no_main = refl;
  reads_twice = refl;
  reads_missing = refl;
  reads_until_fault = refl;
  reads_deep = refl;
}
