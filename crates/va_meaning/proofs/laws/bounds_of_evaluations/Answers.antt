use Rattle.alg_laws.specs.AtFour.{at_four}
use Rattle.va_meaning.specs.EvaluationLaws.{BoundsOfEvaluations}
use Rattle.va_meaning.proofs.EvaluationLaws.{bounds_of_evaluations}
use Rattle.va_meaning.proofs.laws.bounds_of_evaluations.Goals as goal

pub returns : goal.returns
returns g c =
    let a = g.A.Algebra in
    at_four a.ops a.valid a.unit a.laws (BoundsOfEvaluations _) (λ D e v u l. bounds_of_evaluations e v)
