use Rattle.std.proofs.Common.{refl}
use Rattle.std.specs.Fmt.{digits}
use Rattle.std.specs.Str.{is_utf8, chars}
use lib.Utf8.{encode}
use Rattle.va_preproc.proofs.worked.directives_worked_by_hand.Goals as goal

-- each row by computation
pub returns : goal.returns
unfolding digits is_utf8 chars encode
returns c = record {
  no_name = refl;
  number_for_name = refl;
  own_name = refl;
  own_name_ignored = refl;
  own_name_escaped = refl;
  no_formals = refl;
  number_for_formal = refl;
  formal_twice = refl;
  no_comma = refl;
  comma_at_end = refl;
  formals_not_closed = refl;
  undef_no_name = refl;
  undef_own_name = refl;
  include_no_string = refl;
  include_at_line_end = refl;
}
