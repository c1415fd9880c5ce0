use Rattle.alg_laws.specs.AtFour.{at_three}
use Rattle.va_meaning.specs.EvaluationLaws.{MainsOfEvaluations}
use Rattle.va_meaning.proofs.EvaluationLaws.{mains_of_evaluations}
use Rattle.va_meaning.proofs.laws.mains_of_evaluations.Goals as goal

pub returns : goal.returns
returns g c =
    let a = g.A.Algebra in
    at_three a.ops a.valid a.unit a.laws (MainsOfEvaluations _) (λ D e v u l. mains_of_evaluations e v)
