use Rattle.alg_laws.specs.AtFour.{at_three}
use Rattle.va_meaning.specs.EvaluationLaws.{MainsOfParts}
use Rattle.va_meaning.proofs.EvaluationLaws.{mains_of_parts}
use Rattle.va_meaning.proofs.laws.mains_of_parts.Goals as goal

pub returns : goal.returns
returns g c =
    let a = g.A.Algebra in
    at_three a.ops a.valid a.unit a.laws MainsOfParts (λ D e v u l. mains_of_parts e v u l)
