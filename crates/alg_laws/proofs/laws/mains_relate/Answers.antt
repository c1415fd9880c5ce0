use Rattle.alg_laws.specs.AtFour.{at_three}
use Rattle.alg_laws.specs.Related.{MainsRelate}
use Rattle.alg_laws.proofs.Relations.{mains_relate}
use Rattle.alg_laws.proofs.laws.mains_relate.Goals as goal

pub returns : goal.returns
returns g c =
    let a = g.A.Algebra in
    at_three a.ops a.valid a.unit a.laws MainsRelate (λ D e v u l. mains_relate e)
