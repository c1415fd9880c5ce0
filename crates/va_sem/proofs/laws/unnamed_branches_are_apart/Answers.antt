use Rattle.va_sem.proofs.BranchesApart.{unnamed_branches_are_apart}
use Rattle.va_sem.proofs.laws.unnamed_branches_are_apart.Goals as goal

pub returns : goal.returns
returns c = unnamed_branches_are_apart
