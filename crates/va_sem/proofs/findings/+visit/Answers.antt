use Rattle.std.specs.Ordering.{nat_cmp}
use Rattle.std.specs.BTreeMap as tree
use Rattle.std.proofs.Common.{sym}
use Rattle.alg_laws.specs.Least.{listed}
use Rattle.va_sem.proofs.Entering.{visit_block, visit_if, visit_case, visit_for, visit_while, visit_repeat, visit_event, visit_no_event}
use Rattle.va_sem.proofs.findings.+visit.Goals as goal

pub visit-returns-in_ok-done-in-Block : goal.visit-returns-in_ok-done-in-Block
visit-returns-in_ok-done-in-Block t c =
    visit_block (tree.get nat_cmp c.args.meanings.now) (listed c.args.biased.now) c.args.s.now c.in-Block.at c.in-Block.label c.in-Block.declarations c.in-Block.body c.as_slice.result.now _ _ _ c.in_ok-inside.inside c.args.under c.in-Block.is (sym c.as_slice.ensures) c.in_ok-inside.ensures c.in_ok-done-in-Block.ensures

pub visit-returns-in_ok-done-in-If : goal.visit-returns-in_ok-done-in-If
visit-returns-in_ok-done-in-If t c =
    visit_if (tree.get nat_cmp c.args.meanings.now) (listed c.args.biased.now) c.args.s.now c.in-If.at c.in-If.test c.in-If.yes c.in-If.no c.get.result.now _ _ _ _ c.in_ok-inside.inside c.args.under c.in-If.is (sym c.get.ensures) c.in_ok-inside.ensures c.in_ok-visit-in-If.ensures c.in_ok-done-in-If.ensures

pub visit-returns-in_ok-done-in-Case : goal.visit-returns-in_ok-done-in-Case
visit-returns-in_ok-done-in-Case t c =
    visit_case (tree.get nat_cmp c.args.meanings.now) (listed c.args.biased.now) c.args.s.now c.in-Case.at c.in-Case.selector c.in-Case.items c.in-Case.defaults c.as_slice-in-Case.result.now c.as_slice-in-Case-2.result.now _ _ _ _ c.in_ok-inside.inside c.args.under c.in-Case.is (sym c.as_slice-in-Case.ensures) (sym c.as_slice-in-Case-2.ensures) c.in_ok-inside.ensures
    c.in_ok-visit_items-in-Case.ensures c.in_ok-done-in-Case.ensures

pub visit-returns-in_ok-done-in-For : goal.visit-returns-in_ok-done-in-For
visit-returns-in_ok-done-in-For t c =
    visit_for (tree.get nat_cmp c.args.meanings.now) (listed c.args.biased.now) c.args.s.now c.in-For.at c.in-For.first c.in-For.test c.in-For.step c.in-For.body c.get-in-For.result.now _ _ _ c.in_ok-inside.inside c.args.under c.in-For.is (sym c.get-in-For.ensures) c.in_ok-inside.ensures c.in_ok-done-in-For.ensures

pub visit-returns-in_ok-done-in-While : goal.visit-returns-in_ok-done-in-While
visit-returns-in_ok-done-in-While t c =
    visit_while (tree.get nat_cmp c.args.meanings.now) (listed c.args.biased.now) c.args.s.now c.in-While.at c.in-While.test c.in-While.body c.get-in-While.result.now _ _ _ c.in_ok-inside.inside c.args.under c.in-While.is (sym c.get-in-While.ensures) c.in_ok-inside.ensures c.in_ok-done-in-While.ensures

pub visit-returns-in_ok-done-in-Repeat : goal.visit-returns-in_ok-done-in-Repeat
visit-returns-in_ok-done-in-Repeat t c =
    visit_repeat (tree.get nat_cmp c.args.meanings.now) (listed c.args.biased.now) c.args.s.now c.in-Repeat.at c.in-Repeat.count c.in-Repeat.body c.get-in-Repeat.result.now _ _ _ c.in_ok-inside.inside c.args.under c.in-Repeat.is (sym c.get-in-Repeat.ensures) c.in_ok-inside.ensures c.in_ok-done-in-Repeat.ensures

pub visit-returns-in_ok-done-in-Event : goal.visit-returns-in_ok-done-in-Event
visit-returns-in_ok-done-in-Event t c =
    visit_event (tree.get nat_cmp c.args.meanings.now) (listed c.args.biased.now) c.args.s.now c.in-Event.at c.in-Event.event c.in-Event.analyses c.in-Event.body c.get-then-is_evaluated.result.now _ _ _ c.is_evaluated.result c.in_ok-inside.inside c.args.under c.in-Event.is (sym c.get-then-is_evaluated.ensures) c.is_evaluated.ensures c.if-is_evaluated.true c.in_ok-inside.ensures c.in_ok-done-in-Event.ensures

pub visit-returns-else-is_evaluated : goal.visit-returns-else-is_evaluated
visit-returns-else-is_evaluated t c =
    visit_no_event (tree.get nat_cmp c.args.meanings.now) (listed c.args.biased.now) c.args.s.now c.in-Event.at c.in-Event.event c.in-Event.analyses c.in-Event.body _ _ c.is_evaluated.result c.in_ok-inside.inside c.args.under c.in-Event.is c.is_evaluated.ensures c.if-is_evaluated.false c.in_ok-inside.ensures
