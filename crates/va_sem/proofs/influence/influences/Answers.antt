use Rattle.std.specs.Ordering.{nat_cmp}
use Rattle.std.specs.BTreeMap as tree
use Rattle.std.specs.Prelude.{◌+◌, [], ◌≡◌, ℕ, flat_map, List}
use Rattle.std.proofs.Common.{refl, sym, subst, arith}
use Rattle.graphs.specs.declared.edge.Edge.{Edge}
use Rattle.va_sem.specs.rules.Values.{values_in}
use Rattle.va_sem.specs.rules.Findings.{blocks_of, item_blocks}
use Rattle.va_sem.specs.rules.Influence.{CollectsAll}
use Rattle.va_sem.proofs.Influenced.{CollectsOn, collects_start, collects_next, collects_end}
use Rattle.va_sem.proofs.InfluenceWalk.{block_values}
use Rattle.va_sem.proofs.influence.influences.Goals as goal

pub loop-item-init : goal.loop-item-init
loop-item-init c =
    subst (λ (E : List Edge). CollectsOn (tree.get nat_cmp c.args.meanings.now) c.args.count (c.args.count + 1) (λ around items. flat_map (values_in around) (blocks_of items)) c.args.items.now [] 0 E) (sym c.new-edges.ensures.items)
    (collects_start (tree.get nat_cmp c.args.meanings.now) c.args.count (c.args.count + 1) (λ around items. flat_map (values_in around) (blocks_of items)) c.args.items.now [])

pub loop-item-preserved : goal.loop-item-preserved
loop-item-preserved c =
    collects_next (tree.get nat_cmp c.args.meanings.now) c.args.count (c.args.count + 1) (λ around items. flat_map (values_in around) (blocks_of items)) (λ around item. flat_map (values_in around) (item_blocks item)) block_values c.args.items.now [] c.loop-item.item-index c.loop-item.edges.items c.visit_item.new.edges.items c.item-item.result c.loop-item-test.true c.item-item.is
    (subst (λ (over : ℕ). CollectsAll (tree.get nat_cmp c.args.meanings.now) c.args.count over (λ around. flat_map (values_in around) (item_blocks c.item-item.result)) c.loop-item.edges.items c.visit_item.new.edges.items) c.in_ok-over.ensures c.in_ok-visit_item.ensures) c.loop-item.invariant

pub returns : goal.returns
returns c =
    collects_end (tree.get nat_cmp c.args.meanings.now) c.args.count (c.args.count + 1) (λ around items. flat_map (values_in around) (blocks_of items)) (λ around. refl) c.args.items.now [] c.loop-item.item-index c.loop-item.edges.items (omega arith) c.loop-item.invariant
