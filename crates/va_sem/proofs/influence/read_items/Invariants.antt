use Rattle.std.specs.Ordering.{nat_cmp}
use Rattle.std.specs.BTreeMap as tree
use Rattle.va_sem.specs.rules.Findings.{in_item}
use Rattle.va_sem.proofs.InfluenceWalk.{ReadsOn}
use Rattle.va_sem.proofs.influence.read_items.Given as goal

abbrev pub invariant-loop-item : goal.invariant-loop-item
invariant-loop-item l = ReadsOn (tree.get nat_cmp l.meanings) l.count l.target in_item l.items l.fn.edges.items l.item-index l.edges.items
