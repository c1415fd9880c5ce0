use Rattle.alg_laws.specs.AtFour.{at_four}
use Rattle.alg_laws.specs.LiteralValue.{LiteralsAreValid}
use Rattle.alg_laws.proofs.Literals.{literals_valid}
use Rattle.alg_laws.proofs.laws.literals_are_valid.Goals as goal

pub returns : goal.returns
returns g c =
    let a = g.A.Algebra in
    at_four a.ops a.valid a.unit a.laws LiteralsAreValid (λ D e v u l. literals_valid e v u l)
