use Rattle.alg_laws.specs.AtFour.{at_four}
use Rattle.va_meaning.specs.SetUpLaws.{PointsOfSetUps}
use Rattle.va_meaning.proofs.SetUpLaws.{points_of_set_ups}
use Rattle.va_meaning.proofs.laws.points_of_set_ups.Goals as goal

pub returns : goal.returns
returns g c =
    let a = g.A.Algebra in
    at_four a.ops a.valid a.unit a.laws PointsOfSetUps (λ D e v u l. points_of_set_ups e v u l)
