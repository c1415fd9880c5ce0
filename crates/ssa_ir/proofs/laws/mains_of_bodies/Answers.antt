use Rattle.alg_laws.specs.AtFour.{at_three}
use Rattle.ssa_ir.specs.Laws.{MainsOfBodies}
use Rattle.ssa_ir.proofs.LawsProved.{mains_of_bodies}
use Rattle.ssa_ir.proofs.laws.mains_of_bodies.Goals as goal

pub returns : goal.returns
returns g c =
    let a = g.A.Algebra in
    at_three a.ops a.valid a.unit a.laws (MainsOfBodies _) (λ D e v u l. mains_of_bodies e v)
