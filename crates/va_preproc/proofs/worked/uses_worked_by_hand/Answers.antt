use Rattle.std.proofs.Common.{refl}
use Rattle.std.specs.Fmt.{digits}
use Rattle.std.specs.Str.{is_utf8, chars}
use lib.Utf8.{encode}
use Rattle.va_preproc.proofs.worked.uses_worked_by_hand.Goals as goal

-- each row by computation
pub returns : goal.returns
unfolding digits is_utf8 chars encode
returns c = record {
  plain = refl;
  start = refl;
  division = refl;
  nested = refl;
  pairs = refl;
  square_at_none = refl;
  attribute_marks = refl;
  empty_argument = refl;
  over_lines = refl;
  not_again = refl;
  inner_formal = refl;
  two_forms = refl;
  space_before_list = refl;
  attribute_body = refl;
  replaced = refl;
  late_body = refl;
  undefined = refl;
  unused_bad = refl;
  unused_body = refl;
  ignored = refl;
}
