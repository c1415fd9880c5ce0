use Rattle.alg_laws.specs.AtFour.{at_four}
use Rattle.ssa_ir.specs.Laws.{FunctionsAreKept}
use Rattle.ssa_ir.proofs.LawsProved.{functions_are_kept}
use Rattle.ssa_ir.proofs.laws.functions_are_kept.Goals as goal

pub returns : goal.returns
returns g c =
    let a = g.A.Algebra in
    at_four a.ops a.valid a.unit a.laws (FunctionsAreKept _) (λ D e v u l. functions_are_kept e v)
