use Rattle.alg_laws.specs.AtFour.{at_four}
use Rattle.ssa_ir.specs.Laws.{KeepsOutside}
use Rattle.ssa_ir.proofs.LawsProved.{keeps_outside}
use Rattle.ssa_ir.proofs.laws.runs_keep_what_is_outside.Goals as goal

pub returns : goal.returns
returns g c =
    let a = g.A.Algebra in
    at_four a.ops a.valid a.unit a.laws (KeepsOutside _) (λ D e v u l. keeps_outside e v)
