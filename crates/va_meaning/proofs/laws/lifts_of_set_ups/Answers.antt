use Rattle.alg_laws.specs.AtFour.{at_three}
use Rattle.va_meaning.specs.SetUpLaws.{LiftsOfSetUps}
use Rattle.va_meaning.proofs.SetUpsRelated.{lifts_of_set_ups}
use Rattle.va_meaning.proofs.laws.lifts_of_set_ups.Goals as goal

pub returns : goal.returns
returns g c =
    let a = g.A.Algebra in
    at_three a.ops a.valid a.unit a.laws LiftsOfSetUps (λ D e v u l. lifts_of_set_ups e v u l)
