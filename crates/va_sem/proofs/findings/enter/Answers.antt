use Rattle.std.specs.Ordering.{nat_cmp}
use Rattle.std.specs.BTreeMap as tree
use Rattle.std.proofs.Common.{sym}
use Rattle.std.proofs.lemmas.Result.{IfOk-weaker}
use Rattle.alg_laws.specs.Least.{listed}
use Rattle.va_sem.proofs.Entering.{enter_block, enter_if, enter_case, enter_for, enter_while, enter_repeat, enter_event}
use Rattle.va_sem.proofs.findings.enter.Goals as goal

pub returns-in_ok-_any-in-Block : goal.returns-in_ok-_any-in-Block
returns-in_ok-_any-in-Block c =
    enter_block (tree.get nat_cmp c.args.meanings.now) (listed c.args.biased.now) c.args.s.now c.in-Block.at c.in-Block.label c.in-Block.declarations c.in-Block.body c.as_list.result.now _ _ c.in_ok-_any-in-Block._any c.args.under c.in-Block.is (sym c.as_list.ensures) c.in_ok-_any-in-Block.ensures

pub returns-in-If : goal.returns-in-If
returns-in-If c =
    IfOk-weaker c.read_condition.result _ _ (λ inside tested.
    enter_if (tree.get nat_cmp c.args.meanings.now) (listed c.args.biased.now) c.args.s.now c.in-If.at c.in-If.test c.in-If.yes c.in-If.no _ _ inside c.args.under c.in-If.is tested) c.read_condition.ensures

pub returns-in_ok-any-in-Case : goal.returns-in_ok-any-in-Case
returns-in_ok-any-in-Case c =
    enter_case (tree.get nat_cmp c.args.meanings.now) (listed c.args.biased.now) c.args.s.now c.in-Case.at c.in-Case.selector c.in-Case.items c.in-Case.defaults c.as_slice.result.now _ _ _ c.in_ok-answer-in-Case.answer c.in_ok-any-in-Case.any c.either.result c.either-in-Case.result c.args.under
    c.in-Case.is (sym c.as_slice.ensures) c.in_ok-answer-in-Case.ensures c.in_ok-any-in-Case.ensures c.either.ensures c.either-in-Case.ensures

pub returns-in_ok-assign_in_head-in-For-2 : goal.returns-in_ok-assign_in_head-in-For-2
returns-in_ok-assign_in_head-in-For-2 c =
    enter_for (tree.get nat_cmp c.args.meanings.now) (listed c.args.biased.now) c.args.s.now c.in-For.at c.in-For.first c.in-For.test c.in-For.step c.in-For.body _ _ _ _ c.in_ok-answer-in-For.answer c.either-inside.result c.args.under c.in-For.is c.in_ok-answer-in-For.ensures c.either-inside.ensures
    c.in_ok-assign_in_head-in-For.ensures c.in_ok-assign_in_head-in-For-2.ensures

pub returns-in-While : goal.returns-in-While
returns-in-While c =
    IfOk-weaker c.read_condition-in-While.result _ _ (λ inside tested.
    enter_while (tree.get nat_cmp c.args.meanings.now) (listed c.args.biased.now) c.args.s.now c.in-While.at c.in-While.test c.in-While.body _ _ inside c.args.under c.in-While.is tested) c.read_condition-in-While.ensures

pub returns-in-Repeat : goal.returns-in-Repeat
returns-in-Repeat c =
    IfOk-weaker c.read_condition-in-Repeat.result _ _ (λ inside tested.
    enter_repeat (tree.get nat_cmp c.args.meanings.now) (listed c.args.biased.now) c.args.s.now c.in-Repeat.at c.in-Repeat.count c.in-Repeat.body _ _ inside c.args.under c.in-Repeat.is tested) c.read_condition-in-Repeat.ensures

pub returns-in-Event : goal.returns-in-Event
returns-in-Event c =
    enter_event (tree.get nat_cmp c.args.meanings.now) (listed c.args.biased.now) c.args.s.now c.in-Event.at c.in-Event.event c.in-Event.analyses c.in-Event.body c.args.findings.now.items c.args.under c.in-Event.is
