use Rattle.std.proofs.Common.{refl}
use Rattle.std.specs.Fmt.{digits}
use Rattle.va_base.specs.Numerals.{number_of}
use Rattle.c_tree.specs.Blocks.{nested}
use Rattle.c_tree.proofs.worked.spelling_worked_by_hand.Goals as goal

-- each row by computation
pub returns : goal.returns
unfolding digits number_of nested
returns c = record {
  tables = refl;
  bodies = refl;
  blocks = refl;
  cut_block = refl;
  field = refl;
  zero = refl;
  greatest = refl;
  too_great = refl;
  leading_zero = refl;
  no_number = refl;
  other_letter = refl;
  temperature = refl;
  whole = refl;
  mantissa = refl;
  power = refl;
  no_part = refl;
  no_name = refl;
}
