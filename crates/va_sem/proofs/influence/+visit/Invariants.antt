use Rattle.std.specs.Ordering.{nat_cmp}
use Rattle.std.specs.BTreeMap as tree
use Rattle.va_tree.specs.Statements.{statements_of, items_of, defaults_of}
use Rattle.va_sem.specs.rules.Values.{values_in_statements, values_in_items, values_in_defaults}
use Rattle.va_sem.proofs.Influenced.{CollectsOn}
use Rattle.va_sem.proofs.influence.+visit.Given as goal

abbrev pub invariant-visit_all-loop-s : goal.invariant-visit_all-loop-s
invariant-visit_all-loop-s l =
    CollectsOn (tree.get nat_cmp l.meanings) l.count l.over (λ around body. values_in_statements around (statements_of body)) l.body l.fn.edges.items l.s-index l.edges.items

abbrev pub invariant-visit_items-loop-item : goal.invariant-visit_items-loop-item
invariant-visit_items-loop-item l =
    CollectsOn (tree.get nat_cmp l.meanings) l.count l.over (λ around items. values_in_items around (items_of items)) l.items l.fn.edges.items l.item-index l.edges.items

abbrev pub invariant-visit_defaults-loop-default : goal.invariant-visit_defaults-loop-default
invariant-visit_defaults-loop-default l =
    CollectsOn (tree.get nat_cmp l.meanings) l.count l.over (λ around defaults. values_in_defaults around (defaults_of defaults)) l.defaults l.fn.edges.items l.default-index l.edges.items
