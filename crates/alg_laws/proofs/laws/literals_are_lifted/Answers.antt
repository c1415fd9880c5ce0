use Rattle.alg_laws.specs.AtFour.{at_three}
use Rattle.alg_laws.specs.LiteralValue.{LiteralsAreLifted}
use Rattle.alg_laws.proofs.Literals.{literals_lifted}
use Rattle.alg_laws.proofs.laws.literals_are_lifted.Goals as goal

pub returns : goal.returns
returns g c =
    let a = g.A.Algebra in
    at_three a.ops a.valid a.unit a.laws LiteralsAreLifted (λ D e v u l. literals_lifted e v u l)
