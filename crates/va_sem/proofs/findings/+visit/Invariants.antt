use Rattle.std.specs.Ordering.{nat_cmp}
use Rattle.std.specs.BTreeMap as tree
use Rattle.alg_laws.specs.Least.{listed}
use Rattle.va_tree.specs.Statements.{statements_of, items_of, defaults_of}
use Rattle.va_sem.specs.rules.Values.{values_in_statements, values_in_items, values_in_defaults}
use Rattle.va_sem.proofs.Visiting.{VisitsOn}
use Rattle.va_sem.proofs.findings.+visit.Given as goal

abbrev pub invariant-visit_all-loop-s : goal.invariant-visit_all-loop-s
invariant-visit_all-loop-s l =
    VisitsOn (tree.get nat_cmp l.meanings) (listed l.biased) l.under (λ around body. values_in_statements around (statements_of body)) l.body l.fn.findings.items l.s-index l.findings.items

abbrev pub invariant-visit_items-loop-item : goal.invariant-visit_items-loop-item
invariant-visit_items-loop-item l =
    VisitsOn (tree.get nat_cmp l.meanings) (listed l.biased) l.under (λ around items. values_in_items around (items_of items)) l.items l.fn.findings.items l.item-index l.findings.items

abbrev pub invariant-visit_defaults-loop-default : goal.invariant-visit_defaults-loop-default
invariant-visit_defaults-loop-default l =
    VisitsOn (tree.get nat_cmp l.meanings) (listed l.biased) l.under (λ around defaults. values_in_defaults around (defaults_of defaults)) l.defaults l.fn.findings.items l.default-index l.findings.items
