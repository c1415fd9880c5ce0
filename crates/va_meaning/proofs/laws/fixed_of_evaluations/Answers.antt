use Rattle.alg_laws.specs.AtFour.{at_four}
use Rattle.va_meaning.specs.EvaluationLaws.{FixedOfEvaluations}
use Rattle.va_meaning.proofs.EvaluationLaws.{fixed_of_evaluations}
use Rattle.va_meaning.proofs.laws.fixed_of_evaluations.Goals as goal

pub returns : goal.returns
returns g c =
    let a = g.A.Algebra in
    at_four a.ops a.valid a.unit a.laws (FixedOfEvaluations _) (λ D e v u l. fixed_of_evaluations e v)
