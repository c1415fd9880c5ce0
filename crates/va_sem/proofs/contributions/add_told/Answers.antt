use Rattle.std.specs.Prelude.{nat_eq}
use Rattle.std.specs.HashSet as bag
use Rattle.va_sem.proofs.BranchFacts.{none_told, one_told}
use Rattle.va_sem.proofs.contributions.add_told.Goals as goal

pub returns-in-None : goal.returns-in-None
returns-in-None c = λ b. none_told b c.args.branch (bag.contains nat_eq c.args.set.now b) c.in-None.is

pub returns-in_ok-insert-in-Some : goal.returns-in_ok-insert-in-Some
returns-in_ok-insert-in-Some c = λ b. one_told b c.in-Some.number c.args.branch (bag.contains nat_eq c.args.set.now b) _ c.in-Some.is (c.in_ok-insert-in-Some.ensures.updates.0 b)
