use Rattle.alg_laws.specs.AtFour.{at_three}
use Rattle.alg_laws.specs.Related.{LiftsRelate}
use Rattle.alg_laws.proofs.Relations.{lifts_relate}
use Rattle.alg_laws.proofs.laws.lifts_relate.Goals as goal

pub returns : goal.returns
returns g c =
    let a = g.A.Algebra in
    at_three a.ops a.valid a.unit a.laws LiftsRelate (λ D e v u l. lifts_relate e v u l)
