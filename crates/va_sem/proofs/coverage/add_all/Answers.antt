use Rattle.va_sem.proofs.BranchSets.{adds_list}
use Rattle.va_sem.proofs.coverage.add_all.Goals as goal

pub returns : goal.returns
returns c = adds_list c.args.list.now c.args.branches.now.items _ c.in_ok-extend_from_slice.ensures.items
