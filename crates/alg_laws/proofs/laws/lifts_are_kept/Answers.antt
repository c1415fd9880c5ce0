use Rattle.alg_laws.specs.AtFour.{at_three}
use Rattle.alg_laws.specs.Dual.{LiftsAreKept}
use Rattle.alg_laws.proofs.Literals.{lifts_kept}
use Rattle.alg_laws.proofs.laws.lifts_are_kept.Goals as goal

pub returns : goal.returns
returns g c =
    let a = g.A.Algebra in
    at_three a.ops a.valid a.unit a.laws LiftsAreKept (λ D e v u l. lifts_kept e v u l)
