use Rattle.std.proofs.Common.{refl}
use Rattle.std.specs.Fmt.{digits}
use Rattle.std.specs.Str.{is_utf8, chars}
use lib.Utf8.{encode}
use Rattle.va_preproc.proofs.worked.refusals_worked_by_hand.Goals as goal

-- each row by computation
pub returns : goal.returns
unfolding digits is_utf8 chars encode
returns c = record {
  bad = refl;
  bad_string = refl;
  bad_body = refl;
  unknown = refl;
  unknown_inside = refl;
  unknown_unused = refl;
  bad_after = refl;
  undefined = refl;
  no_list = refl;
  no_list_at_end = refl;
  attribute_list = refl;
  not_closed = refl;
  too_many = refl;
  too_few = refl;
  list_in_body = refl;
  list_in_other_file = refl;
  self = refl;
  self_in_argument = refl;
  unknown_first = refl;
  directive_in_body = refl;
  directive_in_argument = refl;
}
