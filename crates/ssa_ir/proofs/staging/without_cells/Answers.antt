use Rattle.ssa_ir.proofs.StoresNothing.{staged_without}
use Rattle.ssa_ir.proofs.staging.without_cells.Goals as goal

pub returns-clause-staged : goal.returns-clause-staged
returns-clause-staged c = staged_without _ c.requires _ _ _ (cc (c.new-2.ensures, c.new.ensures.items)) (cc (c.new-4.ensures, c.new-3.ensures.items)) (cc (c.new-6.ensures, c.new-5.ensures.items))
