use Rattle.alg_laws.specs.AtFour.{at_four}
use Rattle.c_machine.specs.NeverStuck.{NeverStuck}
use Rattle.c_machine.proofs.Never.{never_stuck}
use Rattle.c_machine.proofs.laws.never_stuck.Goals as goal

pub returns : goal.returns
returns g c =
    let a = g.A.Algebra in
    at_four a.ops a.valid a.unit a.laws NeverStuck (λ D e v u l. never_stuck D e v)
