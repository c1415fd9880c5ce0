use Rattle.alg_laws.specs.AtFour.{at_four}
use Rattle.ssa_ir.specs.Laws.{ValidityOfBodies}
use Rattle.ssa_ir.proofs.LawsProved.{validity_of_bodies}
use Rattle.ssa_ir.proofs.laws.validity_of_bodies.Goals as goal

pub returns : goal.returns
returns g c =
    let a = g.A.Algebra in
    at_four a.ops a.valid a.unit a.laws (ValidityOfBodies _) (λ D e v u l. validity_of_bodies e v u l)
