use Rattle.std.proofs.Common.{refl}
use Rattle.std.specs.Fmt.{digits}
use Rattle.std.specs.Str.{is_utf8, chars}
use lib.Utf8.{encode}
use Rattle.va_preproc.proofs.worked.conditionals_worked_by_hand.Goals as goal

-- each row by computation
pub returns : goal.returns
unfolding digits is_utf8 chars encode
returns c = record {
  skipped = refl;
  first = refl;
  second = refl;
  last = refl;
  not_defined = refl;
  inner = refl;
  skipped_define = refl;
  define_takes = refl;
  skipped_directives = refl;
  start = refl;
  elsif_alone = refl;
  else_alone = refl;
  endif_alone = refl;
  else_twice = refl;
  elsif_after_else = refl;
  no_name = refl;
  number_for_name = refl;
  skipped_no_name = refl;
  elsif_no_name = refl;
  skipped_else_twice = refl;
  open_at_end = refl;
  inner_open_at_end = refl;
  closed_elsewhere = refl;
  opened_elsewhere = refl;
}
