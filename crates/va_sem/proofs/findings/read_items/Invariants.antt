use Rattle.std.specs.Ordering.{nat_cmp}
use Rattle.std.specs.BTreeMap as tree
use Rattle.alg_laws.specs.Least.{listed}
use Rattle.va_sem.specs.rules.Findings.{in_item}
use Rattle.va_sem.proofs.Walks.{ReadsOn}
use Rattle.va_sem.proofs.findings.read_items.Given as goal

abbrev pub invariant-loop-item : goal.invariant-loop-item
invariant-loop-item l = ReadsOn (tree.get nat_cmp l.meanings) (listed l.biased) in_item l.items l.fn.findings.items l.item-index l.findings.items l.answer
