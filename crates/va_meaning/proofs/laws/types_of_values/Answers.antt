use Rattle.alg_laws.specs.AtFour.{at_four}
use Rattle.va_meaning.specs.TypeLaws.{TypesOfValues}
use Rattle.va_meaning.proofs.TypeLaws.{types_of_values}
use Rattle.va_meaning.proofs.laws.types_of_values.Goals as goal

pub returns : goal.returns
returns g c =
    let a = g.A.Algebra in
    at_four a.ops a.valid a.unit a.laws (TypesOfValues _) (λ D e v u l. types_of_values e v)
