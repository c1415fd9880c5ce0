use Rattle.alg_laws.specs.AtFour.{at_four}
use Rattle.ssa_ir.specs.Laws.{RunsInSequence}
use Rattle.ssa_ir.proofs.LawsProved.{runs_in_sequence}
use Rattle.ssa_ir.proofs.laws.steps_run_in_sequence.Goals as goal

pub returns : goal.returns
returns g c =
    let a = g.A.Algebra in
    at_four a.ops a.valid a.unit a.laws (RunsInSequence _) (λ D e v u l. runs_in_sequence e v)
