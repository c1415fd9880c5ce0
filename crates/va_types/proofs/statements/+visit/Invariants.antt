use Rattle.va_tree.specs.Statements.{statements_of, items_of, defaults_of}
use Rattle.va_sem.specs.LookedAt.{looked_at_in_statements, looked_at_in_items, looked_at_in_defaults}
use Rattle.va_sem.specs.Typing.{types_in_statements, types_in_items, types_in_defaults}
use Rattle.va_types.proofs.Visiting.{WalksOn}
use Rattle.va_types.proofs.statements.+visit.Given as goal

abbrev pub invariant-visit_all-loop-s : goal.invariant-visit_all-loop-s
invariant-visit_all-loop-s l =
    WalksOn l.table (λ body. types_in_statements l.table (statements_of body)) (λ body. looked_at_in_statements (statements_of body)) l.body l.fn.found l.s-index l.found

abbrev pub invariant-visit_items-loop-item : goal.invariant-visit_items-loop-item
invariant-visit_items-loop-item l =
    WalksOn l.table (λ items. types_in_items l.table (items_of items)) (λ items. looked_at_in_items (items_of items)) l.items l.fn.found l.item-index l.found

abbrev pub invariant-visit_defaults-loop-default : goal.invariant-visit_defaults-loop-default
invariant-visit_defaults-loop-default l =
    WalksOn l.table (λ defaults. types_in_defaults l.table (defaults_of defaults)) (λ defaults. looked_at_in_defaults (defaults_of defaults)) l.defaults l.fn.found l.default-index l.found
