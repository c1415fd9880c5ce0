use Rattle.alg_laws.specs.AtFour.{at_four}
use Rattle.ssa_ir.specs.Laws.{BoundsOfBodies}
use Rattle.ssa_ir.proofs.LawsProved.{bounds_of_bodies}
use Rattle.ssa_ir.proofs.laws.bounds_of_bodies.Goals as goal

pub returns : goal.returns
returns g c =
    let a = g.A.Algebra in
    at_four a.ops a.valid a.unit a.laws (BoundsOfBodies _) (λ D e v u l. bounds_of_bodies e v)
