use Rattle.alg_laws.specs.AtFour.{at_three}
use Rattle.va_meaning.specs.TimeParts.{TimesOfEvaluations}
use Rattle.va_meaning.proofs.TimeParts.{times_of_evaluations}
use Rattle.va_meaning.proofs.laws.times_of_evaluations.Goals as goal

pub returns : goal.returns
returns g c =
    let a = g.A.Algebra in
    at_three a.ops a.valid a.unit a.laws (TimesOfEvaluations _) (λ D e v u l. times_of_evaluations e v u l)
