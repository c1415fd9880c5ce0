use Rattle.alg_laws.specs.AtFour.{at_four}
use Rattle.alg_laws.specs.Related.{ValidityRelates}
use Rattle.alg_laws.proofs.Relations.{validity_relates}
use Rattle.alg_laws.proofs.laws.validity_relates.Goals as goal

pub returns : goal.returns
returns g c =
    let a = g.A.Algebra in
    at_four a.ops a.valid a.unit a.laws ValidityRelates (λ D e v u l. validity_relates e v u l)
