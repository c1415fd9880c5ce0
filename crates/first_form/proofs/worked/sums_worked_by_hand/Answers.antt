use Rattle.std.proofs.Common.{refl, lit<}
use Rattle.std.specs.Prelude.{codes}
use Rattle.std.specs.List.{list_any}
use Rattle.std.specs.Str.{bytes_eq}
use Rattle.std.proofs.lemmas.Bool.{false≢true}
use Rattle.first_form.specs.Worked.{three_names}
use Rattle.first_form.proofs.Params.{not-contained}
use Rattle.first_form.proofs.worked.sums_worked_by_hand.Goals as goal

pub returns : goal.returns
returns c = record {
  differences_from_the_left = refl;
  product_first = refl;
  parentheses_first = refl;
  quotients_from_the_left = refl;
  is_of_the_form = (refl, (refl, (0, lit< tt, refl), (1, lit< tt, refl)), (2, lit< tt, refl));
  another_name = not-contained (codes "s") three_names refl;
  a_number = λ s. s;
  a_sign = λ s. s;
  a_remainder = λ s. false≢true s.0;
  the_potential = refl;
  nodes_turned_round = λ s. false≢true s;
  the_flow = λ s. false≢true s;
  one_argument = λ s. false≢true s;
  open_at_once = refl;
}
