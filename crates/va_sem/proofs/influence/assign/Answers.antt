use Rattle.std.specs.Ordering.{nat_cmp}
use Rattle.std.specs.BTreeMap as tree
use Rattle.std.proofs.Common.{ap, sym, ◌∙◌}
use Rattle.std.specs.Prelude.{◌++◌}
use Rattle.va_tree.specs.Expressions.{expression_of}
use Rattle.va_sem.specs.LookedAt.{looked_at}
use Rattle.va_sem.specs.rules.Findings.{meanings_in}
use Rattle.va_sem.specs.rules.Influence.{edges_to}
use Rattle.va_sem.proofs.Influenced.{collects_assigned, collects_unassigned}
use Rattle.va_sem.proofs.influence.assign.Goals as goal

pub returns-in-None : goal.returns-in-None
returns-in-None c =
    collects_unassigned (tree.get nat_cmp c.args.meanings.now) c.args.count c.args.over c.args.at (expression_of c.args.value.now) c.meaning_at.result _ c.meaning_at.ensures (sym c.variable_meant.ensures ∙ c.in-None.is)

pub returns-in_ok-done-in-Some : goal.returns-in_ok-done-in-Some
returns-in_ok-done-in-Some c =
    collects_assigned (tree.get nat_cmp c.args.meanings.now) c.args.count c.args.over c.args.at c.in-Some.variable (expression_of c.args.value.now) c.meaning_at.result _ _ c.meaning_at.ensures (sym c.variable_meant.ensures ∙ c.in-Some.is)
    (c.in_ok-done-in-Some.ensures ∙ ap (λ list. list ++ edges_to c.args.count c.in-Some.variable (meanings_in (tree.get nat_cmp c.args.meanings.now) (looked_at (expression_of c.args.value.now)))) c.in_ok-push-in-Some.ensures.items)
