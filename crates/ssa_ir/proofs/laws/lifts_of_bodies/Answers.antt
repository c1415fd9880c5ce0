use Rattle.alg_laws.specs.AtFour.{at_three}
use Rattle.ssa_ir.specs.Laws.{LiftsOfBodies}
use Rattle.ssa_ir.proofs.LawsProved.{lifts_of_bodies}
use Rattle.ssa_ir.proofs.laws.lifts_of_bodies.Goals as goal

pub returns : goal.returns
returns g c =
    let a = g.A.Algebra in
    at_three a.ops a.valid a.unit a.laws (LiftsOfBodies _) (λ D e v u l. lifts_of_bodies e v u l)
