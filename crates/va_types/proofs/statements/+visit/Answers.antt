use Rattle.std.proofs.Common.{refl, sym}
use Rattle.va_tree.specs.Statements.{statement_of, statements_of, items_of, defaults_of}
use Rattle.va_sem.specs.LookedAt.{looked_at_in_statement, looked_at_in_statements, looked_at_in_items, looked_at_in_defaults}
use Rattle.va_sem.specs.Typing.{types_in_statement, types_in_statements, types_in_items, types_in_defaults}
use Rattle.va_types.specs.Statements.{types_in_item_of, looked_at_in_item_of}
use Rattle.va_types.proofs.Visiting.{walks_next, visit_block, visit_if, visit_case, visit_for, visit_while, visit_repeat, visit_event, visit_item}
use Rattle.va_types.proofs.statements.+visit.Goals as goal

pub visit-returns-in_ok-done-in-Block : goal.visit-returns-in_ok-done-in-Block
visit-returns-in_ok-done-in-Block t c =
    visit_block c.args.table.now c.args.s.now c.in-Block.at c.in-Block.label c.in-Block.declarations c.as_list.result.now c.in-Block.body c.as_slice.result.now _ _ _ c.in-Block.is (sym c.as_list.ensures) (sym c.as_slice.ensures)
    c.in_ok-read_declarations-in-Block.ensures c.in_ok-done-in-Block.ensures

pub visit-returns-in_ok-done-in-If : goal.visit-returns-in_ok-done-in-If
visit-returns-in_ok-done-in-If t c =
    visit_if c.args.table.now c.args.s.now c.in-If.at c.in-If.test c.in-If.yes c.get.result.now c.in-If.no _ _ _ _ c.in-If.is (sym c.get.ensures) c.in_ok-read_one-in-If.ensures c.in_ok-visit-in-If.ensures c.in_ok-done-in-If.ensures

pub visit-returns-in_ok-done-in-Case : goal.visit-returns-in_ok-done-in-Case
visit-returns-in_ok-done-in-Case t c =
    visit_case c.args.table.now c.args.s.now c.in-Case.at c.in-Case.selector c.in-Case.items c.as_slice-in-Case.result.now c.in-Case.defaults c.as_slice-in-Case-2.result.now _ _ _ _ c.in-Case.is (sym c.as_slice-in-Case.ensures) (sym c.as_slice-in-Case-2.ensures)
    c.in_ok-read_one-in-Case.ensures c.in_ok-visit_items-in-Case.ensures c.in_ok-done-in-Case.ensures

pub visit-returns-in_ok-done-in-For : goal.visit-returns-in_ok-done-in-For
visit-returns-in_ok-done-in-For t c =
    visit_for c.args.table.now c.args.s.now c.in-For.at c.in-For.first c.in-For.test c.in-For.step c.in-For.body c.get-in-For.result.now _ _ _ _ _ c.in-For.is (sym c.get-in-For.ensures)
    c.in_ok-read_one-in-For.ensures c.in_ok-read_one-in-For-2.ensures c.in_ok-read_one-in-For-3.ensures c.in_ok-done-in-For.ensures

pub visit-returns-in_ok-done-in-While : goal.visit-returns-in_ok-done-in-While
visit-returns-in_ok-done-in-While t c =
    visit_while c.args.table.now c.args.s.now c.in-While.at c.in-While.test c.in-While.body c.get-in-While.result.now _ _ _ c.in-While.is (sym c.get-in-While.ensures) c.in_ok-read_one-in-While.ensures c.in_ok-done-in-While.ensures

pub visit-returns-in_ok-done-in-Repeat : goal.visit-returns-in_ok-done-in-Repeat
visit-returns-in_ok-done-in-Repeat t c =
    visit_repeat c.args.table.now c.args.s.now c.in-Repeat.at c.in-Repeat.count c.in-Repeat.body c.get-in-Repeat.result.now _ _ _ c.in-Repeat.is (sym c.get-in-Repeat.ensures) c.in_ok-read_one-in-Repeat.ensures c.in_ok-done-in-Repeat.ensures

pub visit-returns-in_ok-done-in-Event : goal.visit-returns-in_ok-done-in-Event
visit-returns-in_ok-done-in-Event t c =
    visit_event c.args.table.now c.args.s.now c.in-Event.at c.in-Event.event c.in-Event.analyses c.in-Event.body c.get-in-Event.result.now _ _ c.in-Event.is (sym c.get-in-Event.ensures) c.in_ok-done-in-Event.ensures

pub visit_all-loop-s-preserved : goal.visit_all-loop-s-preserved
visit_all-loop-s-preserved t c =
    walks_next c.args.table.now (λ body. types_in_statements c.args.table.now (statements_of body)) (λ body. looked_at_in_statements (statements_of body)) (λ s. types_in_statement c.args.table.now (statement_of s)) (λ s. looked_at_in_statement (statement_of s))
    (λ s rest. refl) (λ s rest. refl) c.args.body.now c.args.found.now c.loop-s.found c.visit.new.found c.loop-s.s-index c.s-item.result c.loop-s-test.true c.s-item.is c.in_ok-visit.ensures c.loop-s.invariant

pub visit_items-loop-item-preserved : goal.visit_items-loop-item-preserved
visit_items-loop-item-preserved t c =
    walks_next c.args.table.now (λ items. types_in_items c.args.table.now (items_of items)) (λ items. looked_at_in_items (items_of items)) (λ i. types_in_item_of c.args.table.now i) (λ i. looked_at_in_item_of i)
    (λ i rest. refl) (λ i rest. refl) c.args.items.now c.args.found.now c.loop-item.found c.visit_item.new.found c.loop-item.item-index c.item-item.result c.loop-item-test.true c.item-item.is c.in_ok-visit_item.ensures c.loop-item.invariant

pub visit_defaults-loop-default-preserved : goal.visit_defaults-loop-default-preserved
visit_defaults-loop-default-preserved t c =
    walks_next c.args.table.now (λ defaults. types_in_defaults c.args.table.now (defaults_of defaults)) (λ defaults. looked_at_in_defaults (defaults_of defaults)) (λ d. types_in_statement c.args.table.now (statement_of d.body)) (λ d. looked_at_in_statement (statement_of d.body))
    (λ d rest. refl) (λ d rest. refl) c.args.defaults.now c.args.found.now c.loop-default.found c.visit.new.found c.loop-default.default-index c.default-item.result c.loop-default-test.true c.default-item.is c.in_ok-visit.ensures c.loop-default.invariant

pub visit_item-returns : goal.visit_item-returns
visit_item-returns t c =
    visit_item c.args.table.now c.args.item.now c.as_list.result.now _ _ _ c.as_list.ensures c.in_ok-read_all.ensures c.in_ok-done.ensures
