use Rattle.alg_laws.specs.AtFour.{at_four}
use Rattle.va_meaning.specs.SetUpLaws.{ErrorsOfSetUps}
use Rattle.va_meaning.proofs.SetUpErrors.{errors_of_set_ups}
use Rattle.va_meaning.proofs.laws.errors_of_set_ups.Goals as goal

pub returns : goal.returns
returns g c =
    let a = g.A.Algebra in
    at_four a.ops a.valid a.unit a.laws ErrorsOfSetUps (λ D e v u l. errors_of_set_ups e v)
