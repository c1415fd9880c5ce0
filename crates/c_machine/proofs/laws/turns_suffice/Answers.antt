use Rattle.alg_laws.specs.AtFour.{at_four}
use Rattle.c_machine.specs.MachineLaws.{TurnsSuffice}
use Rattle.c_machine.proofs.Following.{sufficing}
use Rattle.c_machine.proofs.laws.turns_suffice.Goals as goal

pub returns : goal.returns
returns g c =
    let a = g.A.Algebra in
    at_four a.ops a.valid a.unit a.laws TurnsSuffice (λ D e v u l. sufficing D e v)
