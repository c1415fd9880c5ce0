use Rattle.alg_laws.specs.AtFour.{at_three}
use Rattle.va_meaning.specs.TwoParts.{TwoPartsOfResiduals}
use Rattle.va_meaning.proofs.TwoParts.{two_parts_of_residuals}
use Rattle.va_meaning.proofs.laws.two_parts_of_residuals.Goals as goal

pub returns : goal.returns
returns g c =
    let a = g.A.Algebra in
    at_three a.ops a.valid a.unit a.laws TwoPartsOfResiduals (λ D e v u l. two_parts_of_residuals e v u l)
