use Rattle.alg_laws.specs.AtFour.{at_four}
use Rattle.c_machine.specs.MachineLaws.{LoadsAdd}
use Rattle.c_machine.proofs.Keeping.{adding}
use Rattle.c_machine.proofs.laws.loads_add.Goals as goal

pub returns : goal.returns
returns g c =
    let a = g.A.Algebra in
    at_four a.ops a.valid a.unit a.laws LoadsAdd (λ D e v u l. adding D e v)
