use Rattle.alg_laws.specs.AtFour.{at_four}
use Rattle.ssa_ir.specs.Laws.{ReadsWhatIsDefined}
use Rattle.ssa_ir.proofs.LawsProved.{reads_what_is_defined}
use Rattle.ssa_ir.proofs.laws.bodies_read_what_is_defined.Goals as goal

pub returns : goal.returns
returns g c =
    let a = g.A.Algebra in
    at_four a.ops a.valid a.unit a.laws (ReadsWhatIsDefined _) (λ D e v u l. reads_what_is_defined e v)
