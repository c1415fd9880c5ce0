use Rattle.va_sem.proofs.BranchSets.{kept_if, left_more}
use Rattle.std.specs.Prelude.{nat_eq}
use Rattle.std.specs.HashSet as bag
use Rattle.va_sem.proofs.branch_set.in_both.Goals as goal

pub loop-branch-preserved : goal.loop-branch-preserved
loop-branch-preserved c = record {
  kept = kept_if c.args.first.now c.args.second.now c.loop-branch.branch-index c.loop-branch-test.true c.remove-found.result c.loop-branch.list.items c.add_if.new.list.items (bag.contains nat_eq c.loop-branch.left)
      c.remove-found.ensures.test c.in_ok-add_if.ensures c.loop-branch.invariant.left c.loop-branch.invariant.kept;
  left = left_more c.args.first.now c.args.second.now c.loop-branch.branch-index c.loop-branch-test.true (bag.contains nat_eq c.loop-branch.left) (bag.contains nat_eq c.remove-found.new.self)
      c.remove-found.ensures.updates.0 c.loop-branch.invariant.left;
}
