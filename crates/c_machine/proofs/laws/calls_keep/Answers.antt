use Rattle.alg_laws.specs.AtFour.{at_four}
use Rattle.c_machine.specs.MachineLaws.{CallsKeep}
use Rattle.c_machine.proofs.Keeping.{keeping}
use Rattle.c_machine.proofs.laws.calls_keep.Goals as goal

pub returns : goal.returns
returns g c =
    let a = g.A.Algebra in
    at_four a.ops a.valid a.unit a.laws CallsKeep (λ D e v u l. keeping D e v)
