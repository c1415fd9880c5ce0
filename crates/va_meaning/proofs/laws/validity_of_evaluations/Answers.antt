use Rattle.alg_laws.specs.AtFour.{at_four}
use Rattle.va_meaning.specs.EvaluationLaws.{ValidityOfEvaluations}
use Rattle.va_meaning.proofs.EvaluationLaws.{validity_of_evaluations}
use Rattle.va_meaning.proofs.laws.validity_of_evaluations.Goals as goal

pub returns : goal.returns
returns g c =
    let a = g.A.Algebra in
    at_four a.ops a.valid a.unit a.laws (ValidityOfEvaluations _) (λ D e v u l. validity_of_evaluations e v u l)
