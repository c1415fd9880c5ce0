use Rattle.std.specs.Ordering.{nat_cmp}
use Rattle.std.specs.BTreeMap as tree
use Rattle.alg_laws.specs.Least.{listed}
use Rattle.va_sem.proofs.Visiting.{FindsOn}
use Rattle.va_sem.proofs.bias.find.Given as goal

abbrev pub invariant-loop-item : goal.invariant-loop-item
invariant-loop-item l = FindsOn (tree.get nat_cmp l.meanings) (listed l.biased) l.items l.item-index l.findings.items
