use Rattle.std.proofs.Common.{refl}
use Rattle.std.specs.Fmt.{digits}
use Rattle.std.specs.Str.{is_utf8, chars}
use lib.Utf8.{encode}
use Rattle.va_preproc.proofs.worked.limits_worked_by_hand.Goals as goal

-- each row by computation
pub returns : goal.returns
unfolding digits is_utf8 chars encode
returns c = record {
  read = refl;
  read_past = refl;
  read_skipped = refl;
  read_in_use = refl;
  read_in_use_past = refl;
  read_argument = refl;
  read_argument_past = refl;
  read_list_past = refl;
  before_no_name = refl;
  before_no_list = refl;
  after_no_list = refl;
  result = refl;
  result_past = refl;
  result_not_taken = refl;
  bomb = refl;
  uses = refl;
  uses_past = refl;
  uses_in_argument = refl;
  self_before_deep = refl;
  unknown_before_deep = refl;
  includes = refl;
  includes_past = refl;
  string_before_deep = refl;
  bytes = refl;
  bytes_past = refl;
  bytes_past_include = refl;
  deepest = refl;
  too_deep = refl;
}
