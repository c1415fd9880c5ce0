use Rattle.std.proofs.Common.{refl}
use Rattle.std.specs.Fmt.{digits}
use Rattle.std.specs.Str.{is_utf8, chars}
use lib.Utf8.{encode}
use Rattle.va_sem.proofs.rules_worked.biased_worked_by_hand.Goals as goal

-- each row by computation
pub returns : goal.returns
unfolding digits is_utf8 chars encode
returns c = record {
  order_plays_no_part = refl;
  under_a_biased_condition = refl;
  condition_that_is_fixed = refl;
  condition_of_a_for_stands_over_its_head = refl;
  items_stand_over_all_arms = refl;
  final_step = refl;
  what_is_not_looked_at = refl;
  conditions_make_nothing_timed = refl;
}
