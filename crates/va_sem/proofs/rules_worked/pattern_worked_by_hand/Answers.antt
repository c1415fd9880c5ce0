use Rattle.std.proofs.Common.{refl}
use Rattle.std.specs.Fmt.{digits}
use Rattle.std.specs.Str.{is_utf8, chars}
use lib.Utf8.{encode}
use Rattle.va_sem.proofs.rules_worked.pattern_worked_by_hand.Goals as goal

-- each row by computation
pub returns : goal.returns
unfolding digits is_utf8 chars encode
returns c = record {
  resistor = refl;
  capacitor = refl;
  inductor = refl;
  of_a_diode = refl;
  pairs_of_a_diode = refl;
  condition = refl;
  order_plays_no_part = refl;
  values_play_no_part = refl;
  integer_variable = refl;
  timed_variable = refl;
  time_derivative_of_a_variable = refl;
  arms = refl;
  function = refl;
  what_is_not_looked_at = refl;
  final_step = refl;
}
