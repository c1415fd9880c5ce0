use Rattle.alg_laws.specs.AtFour.{at_four}
use Rattle.alg_laws.specs.Rings.{NegativesAndProducts, negatives_and_products}
use Rattle.alg_laws.proofs.laws.negatives_and_products.Goals as goal

pub returns : goal.returns
returns g c =
    let a = g.A.Algebra in
    at_four a.ops a.valid a.unit a.laws NegativesAndProducts (λ D e v u l. negatives_and_products e v u l)
