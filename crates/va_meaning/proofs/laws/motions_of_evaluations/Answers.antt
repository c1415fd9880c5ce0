use Rattle.alg_laws.specs.AtFour.{at_three}
use Rattle.va_meaning.specs.Motions.{MotionsOfEvaluations}
use Rattle.va_meaning.proofs.Motions.{motions_of_evaluations}
use Rattle.va_meaning.proofs.laws.motions_of_evaluations.Goals as goal

pub returns : goal.returns
returns g c =
    let a = g.A.Algebra in
    at_three a.ops a.valid a.unit a.laws (MotionsOfEvaluations _) (λ D e v u l. motions_of_evaluations e v u l)
