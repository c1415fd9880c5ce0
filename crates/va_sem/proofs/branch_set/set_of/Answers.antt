use Rattle.va_sem.proofs.BranchSets.{one_more}
use Rattle.va_sem.proofs.branch_set.set_of.Goals as goal

pub loop-branch-preserved : goal.loop-branch-preserved
loop-branch-preserved c = λ b. one_more c.args.branches.now c.loop-branch.branch-index b _ _ c.loop-branch-test.true (c.loop-branch.invariant b) (c.in_ok-insert.ensures.updates.0 b)
