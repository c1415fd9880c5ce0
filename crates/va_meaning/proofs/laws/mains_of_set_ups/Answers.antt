use Rattle.alg_laws.specs.AtFour.{at_three}
use Rattle.va_meaning.specs.SetUpLaws.{MainsOfSetUps}
use Rattle.va_meaning.proofs.SetUpsRelated.{mains_of_set_ups}
use Rattle.va_meaning.proofs.laws.mains_of_set_ups.Goals as goal

pub returns : goal.returns
returns g c =
    let a = g.A.Algebra in
    at_three a.ops a.valid a.unit a.laws MainsOfSetUps (λ D e v u l. mains_of_set_ups e v)
