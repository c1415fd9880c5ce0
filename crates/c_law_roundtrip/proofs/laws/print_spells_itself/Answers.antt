use Rattle.c_law_roundtrip.proofs.Itself.{print_spells_itself}
use Rattle.c_law_roundtrip.proofs.laws.print_spells_itself.Goals as goal

pub returns : goal.returns
returns c = print_spells_itself
