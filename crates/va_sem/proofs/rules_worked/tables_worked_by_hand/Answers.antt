use Rattle.std.proofs.Common.{refl}
use Rattle.std.specs.Fmt.{digits}
use Rattle.std.specs.Str.{is_utf8, chars}
use lib.Utf8.{encode}
use Rattle.va_sem.proofs.rules_worked.tables_worked_by_hand.Goals as goal

-- each row by computation
pub returns : goal.returns
unfolding digits is_utf8 chars encode
returns c = record {
  coil = refl;
  unnamed_branches = refl;
}
