use Rattle.std.proofs.Common.{refl}
use Rattle.std.specs.Fmt.{digits}
use Rattle.va_base.specs.Numerals.{number_of}
use Rattle.c_tree.specs.Blocks.{nested}
use Rattle.c_law_form_ignores_places.proofs.laws.trees_worked_by_hand.Goals as goal

-- each row by computation
pub returns : goal.returns
unfolding digits number_of nested
returns c = record {
  own_tree = refl;
  blamed_there = refl;
  blamed_at_0 = refl;
  wrong_number = refl;
  number_not_asked = refl;
  numbers_missing = refl;
  numbers_written = refl;
  great_not_blamed = refl;
  another_field = refl;
  own_tree_blamed = refl;
}
