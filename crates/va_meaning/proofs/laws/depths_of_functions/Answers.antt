use Rattle.alg_laws.specs.AtFour.{at_four}
use Rattle.va_meaning.specs.EvaluationLaws.{DepthsOfFunctions}
use Rattle.va_meaning.proofs.EvaluationLaws.{depths_of_functions}
use Rattle.va_meaning.proofs.laws.depths_of_functions.Goals as goal

pub returns : goal.returns
returns g c =
    let a = g.A.Algebra in
    at_four a.ops a.valid a.unit a.laws (DepthsOfFunctions _) (λ D e v u l. depths_of_functions e v)
