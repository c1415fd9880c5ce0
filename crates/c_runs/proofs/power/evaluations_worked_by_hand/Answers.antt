use Rattle.std.proofs.Common.{refl}
use Rattle.std.specs.Fmt.{digits}
use Rattle.c_tree.specs.Blocks.{nested}
use Rattle.c_runs.proofs.power.evaluations_worked_by_hand.Goals as goal

-- each row by computation
pub returns : goal.returns
unfolding digits nested
returns c = record {
  given = refl;
  not_given = refl;
  of_degree_1 = refl;
  of_degree_0 = refl;
  below_0 = refl;
  at_0 = refl;
  a_turn_short = refl;
  below_32_bits = refl;
  nothing_behind = refl;
  no_real_degree = refl;
  short_solution = refl;
}
