use Rattle.std.proofs.Common.{refl}
use Rattle.std.specs.Fmt.{digits}
use Rattle.c_tree.specs.Blocks.{nested}
use Rattle.c_runs.proofs.inductor.evaluations_worked_by_hand.Goals as goal

-- each row by computation
pub returns : goal.returns
unfolding digits nested
returns c = record {
  given = refl;
  not_given = refl;
  evaluated_again = refl;
  evaluated_elsewhere = refl;
  no_such_parameter = refl;
  short_solution = refl;
}
