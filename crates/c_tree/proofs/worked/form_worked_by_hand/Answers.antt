use Rattle.std.proofs.Common.{refl}
use Rattle.std.specs.Fmt.{digits}
use Rattle.va_base.specs.Numerals.{number_of}
use Rattle.c_tree.specs.Blocks.{nested}
use Rattle.c_tree.proofs.worked.form_worked_by_hand.Goals as goal

-- each row by computation
pub returns : goal.returns
unfolding digits number_of nested
returns c = record { file = refl; blames_nothing = refl }
