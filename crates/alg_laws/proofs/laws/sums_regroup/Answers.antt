use Rattle.alg_laws.specs.AtFour.{at_four}
use Rattle.alg_laws.specs.Sums.{SumsRegroup}
use Rattle.alg_laws.proofs.Sums.{sums_regroup}
use Rattle.alg_laws.proofs.laws.sums_regroup.Goals as goal

pub returns : goal.returns
returns g c =
    let a = g.A.Algebra in
    at_four a.ops a.valid a.unit a.laws SumsRegroup (λ D e v u l. sums_regroup e v u l)
