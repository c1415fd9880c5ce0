use Rattle.std.proofs.Common.{refl}
use Rattle.std.specs.Fmt.{digits}
use Rattle.va_base.proofs.worked.tables_worked_by_hand.Goals as goal

-- each text by computation
pub returns : goal.returns
unfolding digits
returns c = record { no_module = refl; of_a_resistor = refl; of_a_junction = refl }
