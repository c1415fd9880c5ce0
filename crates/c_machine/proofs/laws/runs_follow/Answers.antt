use Rattle.alg_laws.specs.AtFour.{at_four}
use Rattle.c_machine.specs.MachineLaws.{RunsFollow}
use Rattle.c_machine.proofs.Following.{following}
use Rattle.c_machine.proofs.laws.runs_follow.Goals as goal

pub returns : goal.returns
returns g c =
    let a = g.A.Algebra in
    at_four a.ops a.valid a.unit a.laws RunsFollow (λ D e v u l. following D e v)
