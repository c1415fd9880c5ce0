use Rattle.std.specs.Ordering.{nat_cmp}
use Rattle.std.specs.BTreeMap as tree
use Rattle.std.proofs.Common.{sym, refl, arith}
use Rattle.va_tree.specs.Statements.{statement_of, statements_of, items_of, defaults_of}
use Rattle.va_sem.specs.rules.Values.{values_in, values_in_statements, values_in_items, values_in_defaults}
use Rattle.va_sem.proofs.Influenced.{collects_start, collects_next, collects_end}
use Rattle.va_sem.proofs.InfluenceWalk.{visit_null, visit_block, visit_if, visit_case, visit_for, visit_while, visit_repeat, visit_event, visit_no_event, visit_assign, visit_contribute, visit_task, else_none}
use Rattle.va_sem.proofs.influence.+visit.Goals as goal

pub visit-returns-in-Null : goal.visit-returns-in-Null
visit-returns-in-Null t c = visit_null (tree.get nat_cmp c.args.meanings.now) c.args.count c.args.s.now c.in-Null.at c.args.over c.in_ok-inside.inside _ _ c.in-Null.is c.in_ok-inside.ensures

pub visit-returns-in_ok-done-in-Block : goal.visit-returns-in_ok-done-in-Block
visit-returns-in_ok-done-in-Block t c =
    visit_block (tree.get nat_cmp c.args.meanings.now) c.args.count c.args.s.now c.in-Block.at c.in-Block.label c.in-Block.declarations c.in-Block.body c.as_slice.result.now c.args.over c.in_ok-inside.inside _ _ _ c.in-Block.is (sym c.as_slice.ensures) c.in_ok-inside.ensures c.in_ok-done-in-Block.ensures

pub visit-returns-in_ok-done-in-If : goal.visit-returns-in_ok-done-in-If
visit-returns-in_ok-done-in-If t c =
    visit_if (tree.get nat_cmp c.args.meanings.now) c.args.count c.args.s.now c.in-If.at c.in-If.test c.in-If.yes c.in-If.no c.get.result.now c.args.over c.in_ok-inside.inside _ _ _ _ c.in-If.is (sym c.get.ensures) c.in_ok-inside.ensures c.in_ok-visit-in-If.ensures c.in_ok-done-in-If.ensures

pub visit-returns-in_ok-done-in-Case : goal.visit-returns-in_ok-done-in-Case
visit-returns-in_ok-done-in-Case t c =
    visit_case (tree.get nat_cmp c.args.meanings.now) c.args.count c.args.s.now c.in-Case.at c.in-Case.selector c.in-Case.items c.in-Case.defaults c.as_slice-in-Case.result.now c.as_slice-in-Case-2.result.now c.args.over c.in_ok-inside.inside _ _ _ _ c.in-Case.is (sym c.as_slice-in-Case.ensures) (sym c.as_slice-in-Case-2.ensures) c.in_ok-inside.ensures
    c.in_ok-visit_items-in-Case.ensures c.in_ok-done-in-Case.ensures

pub visit-returns-in_ok-done-in-For : goal.visit-returns-in_ok-done-in-For
visit-returns-in_ok-done-in-For t c =
    visit_for (tree.get nat_cmp c.args.meanings.now) c.args.count c.args.s.now c.in-For.at c.in-For.first c.in-For.test c.in-For.step c.in-For.body c.get-in-For.result.now c.args.over c.in_ok-inside.inside _ _ _ c.in-For.is (sym c.get-in-For.ensures) c.in_ok-inside.ensures c.in_ok-done-in-For.ensures

pub visit-returns-in_ok-done-in-While : goal.visit-returns-in_ok-done-in-While
visit-returns-in_ok-done-in-While t c =
    visit_while (tree.get nat_cmp c.args.meanings.now) c.args.count c.args.s.now c.in-While.at c.in-While.test c.in-While.body c.get-in-While.result.now c.args.over c.in_ok-inside.inside _ _ _ c.in-While.is (sym c.get-in-While.ensures) c.in_ok-inside.ensures c.in_ok-done-in-While.ensures

pub visit-returns-in_ok-done-in-Repeat : goal.visit-returns-in_ok-done-in-Repeat
visit-returns-in_ok-done-in-Repeat t c =
    visit_repeat (tree.get nat_cmp c.args.meanings.now) c.args.count c.args.s.now c.in-Repeat.at c.in-Repeat.count c.in-Repeat.body c.get-in-Repeat.result.now c.args.over c.in_ok-inside.inside _ _ _ c.in-Repeat.is (sym c.get-in-Repeat.ensures) c.in_ok-inside.ensures c.in_ok-done-in-Repeat.ensures

pub visit-returns-in_ok-done-in-Event : goal.visit-returns-in_ok-done-in-Event
visit-returns-in_ok-done-in-Event t c =
    visit_event (tree.get nat_cmp c.args.meanings.now) c.args.count c.args.s.now c.in-Event.at c.in-Event.event c.in-Event.analyses c.in-Event.body c.get-then-is_evaluated.result.now c.is_evaluated.result c.args.over c.in_ok-inside.inside _ _ _ c.in-Event.is (sym c.get-then-is_evaluated.ensures) c.is_evaluated.ensures c.if-is_evaluated.true c.in_ok-inside.ensures c.in_ok-done-in-Event.ensures

pub visit-returns-else-is_evaluated : goal.visit-returns-else-is_evaluated
visit-returns-else-is_evaluated t c =
    visit_no_event (tree.get nat_cmp c.args.meanings.now) c.args.count c.args.s.now c.in-Event.at c.in-Event.event c.in-Event.analyses c.in-Event.body c.is_evaluated.result c.args.over c.in_ok-inside.inside _ _ c.in-Event.is c.is_evaluated.ensures c.if-is_evaluated.false c.in_ok-inside.ensures

pub visit-returns-in-Assign : goal.visit-returns-in-Assign
visit-returns-in-Assign t c = visit_assign (tree.get nat_cmp c.args.meanings.now) c.args.count c.args.s.now c.in-Assign.at c.in-Assign.target c.in-Assign.value c.args.over c.in_ok-inside.inside _ _ c.in-Assign.is c.in_ok-inside.ensures

pub visit-returns-in-Contribute : goal.visit-returns-in-Contribute
visit-returns-in-Contribute t c = visit_contribute (tree.get nat_cmp c.args.meanings.now) c.args.count c.args.s.now c.in-Contribute.at c.in-Contribute.access c.in-Contribute.first c.in-Contribute.second c.in-Contribute.value c.args.over c.in_ok-inside.inside _ _ c.in-Contribute.is c.in_ok-inside.ensures

pub visit-returns-in-Task : goal.visit-returns-in-Task
visit-returns-in-Task t c = visit_task (tree.get nat_cmp c.args.meanings.now) c.args.count c.args.s.now c.in-Task.at c.in-Task.name c.in-Task.args c.args.over c.in_ok-inside.inside _ _ c.in-Task.is c.in_ok-inside.ensures

pub visit_else-returns-in-None : goal.visit_else-returns-in-None
visit_else-returns-in-None t c = else_none (tree.get nat_cmp c.args.meanings.now) c.args.count c.args.over c.args.no.now c.args.edges.now.items c.in-None.is

pub visit_all-loop-s-init : goal.visit_all-loop-s-init
visit_all-loop-s-init t c = collects_start (tree.get nat_cmp c.args.meanings.now) c.args.count c.args.over (λ around body. values_in_statements around (statements_of body)) c.args.body.now c.args.edges.now.items

pub visit_all-loop-s-preserved : goal.visit_all-loop-s-preserved
visit_all-loop-s-preserved t c =
    collects_next (tree.get nat_cmp c.args.meanings.now) c.args.count c.args.over (λ around body. values_in_statements around (statements_of body)) (λ around s. values_in around (statement_of s)) (λ around s rest. refl) c.args.body.now c.args.edges.now.items c.loop-s.s-index c.loop-s.edges.items c.visit.new.edges.items c.s-item.result c.loop-s-test.true c.s-item.is c.in_ok-visit.ensures c.loop-s.invariant

pub visit_all-returns : goal.visit_all-returns
visit_all-returns t c =
    collects_end (tree.get nat_cmp c.args.meanings.now) c.args.count c.args.over (λ around body. values_in_statements around (statements_of body)) (λ around. refl) c.args.body.now c.args.edges.now.items c.loop-s.s-index c.loop-s.edges.items (omega arith) c.loop-s.invariant

pub visit_items-loop-item-init : goal.visit_items-loop-item-init
visit_items-loop-item-init t c = collects_start (tree.get nat_cmp c.args.meanings.now) c.args.count c.args.over (λ around items. values_in_items around (items_of items)) c.args.items.now c.args.edges.now.items

pub visit_items-loop-item-preserved : goal.visit_items-loop-item-preserved
visit_items-loop-item-preserved t c =
    collects_next (tree.get nat_cmp c.args.meanings.now) c.args.count c.args.over (λ around items. values_in_items around (items_of items)) (λ around item. values_in around (statement_of item.body)) (λ around item rest. refl) c.args.items.now c.args.edges.now.items c.loop-item.item-index c.loop-item.edges.items c.visit.new.edges.items c.item-item.result c.loop-item-test.true c.item-item.is c.in_ok-visit.ensures c.loop-item.invariant

pub visit_items-returns : goal.visit_items-returns
visit_items-returns t c =
    collects_end (tree.get nat_cmp c.args.meanings.now) c.args.count c.args.over (λ around items. values_in_items around (items_of items)) (λ around. refl) c.args.items.now c.args.edges.now.items c.loop-item.item-index c.loop-item.edges.items (omega arith) c.loop-item.invariant

pub visit_defaults-loop-default-init : goal.visit_defaults-loop-default-init
visit_defaults-loop-default-init t c = collects_start (tree.get nat_cmp c.args.meanings.now) c.args.count c.args.over (λ around defaults. values_in_defaults around (defaults_of defaults)) c.args.defaults.now c.args.edges.now.items

pub visit_defaults-loop-default-preserved : goal.visit_defaults-loop-default-preserved
visit_defaults-loop-default-preserved t c =
    collects_next (tree.get nat_cmp c.args.meanings.now) c.args.count c.args.over (λ around defaults. values_in_defaults around (defaults_of defaults)) (λ around default. values_in around (statement_of default.body)) (λ around default rest. refl) c.args.defaults.now c.args.edges.now.items c.loop-default.default-index c.loop-default.edges.items c.visit.new.edges.items c.default-item.result c.loop-default-test.true c.default-item.is c.in_ok-visit.ensures c.loop-default.invariant

pub visit_defaults-returns : goal.visit_defaults-returns
visit_defaults-returns t c =
    collects_end (tree.get nat_cmp c.args.meanings.now) c.args.count c.args.over (λ around defaults. values_in_defaults around (defaults_of defaults)) (λ around. refl) c.args.defaults.now c.args.edges.now.items c.loop-default.default-index c.loop-default.edges.items (omega arith) c.loop-default.invariant
