use Rattle.std.proofs.Common.{refl}
use Rattle.std.specs.Fmt.{digits}
use Rattle.c_tree.specs.Blocks.{nested}
use Rattle.c_runs.proofs.resistor.evaluations_worked_by_hand.Goals as goal

-- each row by computation
pub returns : goal.returns
unfolding digits nested
returns c = record {
  given = refl;
  not_given = refl;
  nothing_flows = refl;
  zero_is_reported = refl;
  below_zero_is_reported = refl;
  above_zero_is_not = refl;
  the_last_counts = refl;
  no_such_parameter = refl;
  an_integer = refl;
}
