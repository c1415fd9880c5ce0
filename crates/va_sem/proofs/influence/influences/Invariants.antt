use Rattle.std.specs.Ordering.{nat_cmp}
use Rattle.std.specs.BTreeMap as tree
use Rattle.std.specs.Prelude.{◌+◌, []}
use Rattle.std.specs.Prelude.{flat_map}
use Rattle.va_sem.specs.rules.Values.{values_in}
use Rattle.va_sem.specs.rules.Findings.{blocks_of}
use Rattle.va_sem.proofs.Influenced.{CollectsOn}
use Rattle.va_sem.proofs.influence.influences.Given as goal

abbrev pub invariant-loop-item : goal.invariant-loop-item
invariant-loop-item l = CollectsOn (tree.get nat_cmp l.meanings) l.count (l.count + 1) (λ around items. flat_map (values_in around) (blocks_of items)) l.items [] l.item-index l.edges.items
