use Rattle.std.proofs.Common.{◌≡◌, ◌++◌, drop}
use Rattle.std.specs.Prelude.{map}
use Rattle.va_sem.specs.declared.branch.Unknown.TheVariants.{Branch}
use Rattle.va_sem.proofs.surveys.add_branches.Given as goal

abbrev pub invariant-loop-branch : goal.invariant-loop-branch
invariant-loop-branch l = l.list.items ++ map Branch (drop l.branch-index l.branches) ≡ l.fn.list.items ++ map Branch l.branches
