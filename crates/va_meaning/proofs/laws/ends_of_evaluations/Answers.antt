use Rattle.alg_laws.specs.AtFour.{at_four}
use Rattle.va_meaning.specs.EvaluationLaws.{EndsOfEvaluations}
use Rattle.va_meaning.proofs.EvaluationLaws.{ends_of_evaluations}
use Rattle.va_meaning.proofs.laws.ends_of_evaluations.Goals as goal

pub returns : goal.returns
returns g c =
    let a = g.A.Algebra in
    at_four a.ops a.valid a.unit a.laws (EndsOfEvaluations _) (λ D e v u l. ends_of_evaluations e v)
