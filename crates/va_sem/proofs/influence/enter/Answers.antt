use Rattle.std.specs.Ordering.{nat_cmp}
use Rattle.std.specs.BTreeMap as tree
use Rattle.std.proofs.Common.{sym}
use Rattle.va_sem.proofs.InfluenceWalk.{enter_null, enter_block, enter_if, enter_case, enter_for, enter_while, enter_repeat, enter_event, enter_assign, enter_contribute, enter_task}
use Rattle.va_sem.proofs.influence.enter.Goals as goal

pub returns-in-Null : goal.returns-in-Null
returns-in-Null c = enter_null (tree.get nat_cmp c.args.meanings.now) c.args.count c.args.s.now c.in-Null.at c.args.over c.args.edges.now.items c.in-Null.is

pub returns-in-Block : goal.returns-in-Block
returns-in-Block c = enter_block (tree.get nat_cmp c.args.meanings.now) c.args.count c.args.s.now c.in-Block.at c.in-Block.label c.in-Block.declarations c.in-Block.body c.args.over c.args.edges.now.items c.in-Block.is

pub returns-in_ok-inside-in-If : goal.returns-in_ok-inside-in-If
returns-in_ok-inside-in-If c =
    enter_if (tree.get nat_cmp c.args.meanings.now) c.args.count c.args.s.now c.in-If.at c.in-If.test c.in-If.yes c.in-If.no c.args.over c.in_ok-inside-in-If.inside _ _ c.in-If.is c.in_ok-inside-in-If.ensures.at c.in_ok-inside-in-If.ensures.added

pub returns-in_ok-read_items-in-Case : goal.returns-in_ok-read_items-in-Case
returns-in_ok-read_items-in-Case c =
    enter_case (tree.get nat_cmp c.args.meanings.now) c.args.count c.args.s.now c.in-Case.at c.in-Case.selector c.in-Case.items c.in-Case.defaults c.as_slice.result.now c.args.over c.in_ok-inside-in-Case.inside _ _ _ c.in-Case.is (sym c.as_slice.ensures)
    c.in_ok-inside-in-Case.ensures.at c.in_ok-inside-in-Case.ensures.added c.in_ok-read_items-in-Case.ensures

pub returns-in_ok-assign_in_head-in-For-2 : goal.returns-in_ok-assign_in_head-in-For-2
returns-in_ok-assign_in_head-in-For-2 c =
    enter_for (tree.get nat_cmp c.args.meanings.now) c.args.count c.args.s.now c.in-For.at c.in-For.first c.in-For.test c.in-For.step c.in-For.body c.args.over c.in_ok-inside-in-For.inside _ _ _ _ c.in-For.is c.in_ok-inside-in-For.ensures.at c.in_ok-inside-in-For.ensures.added
    c.in_ok-assign_in_head-in-For.ensures c.in_ok-assign_in_head-in-For-2.ensures

pub returns-in_ok-inside-in-While : goal.returns-in_ok-inside-in-While
returns-in_ok-inside-in-While c =
    enter_while (tree.get nat_cmp c.args.meanings.now) c.args.count c.args.s.now c.in-While.at c.in-While.test c.in-While.body c.args.over c.in_ok-inside-in-While.inside _ _ c.in-While.is c.in_ok-inside-in-While.ensures.at c.in_ok-inside-in-While.ensures.added

pub returns-in_ok-inside-in-Repeat : goal.returns-in_ok-inside-in-Repeat
returns-in_ok-inside-in-Repeat c =
    enter_repeat (tree.get nat_cmp c.args.meanings.now) c.args.count c.args.s.now c.in-Repeat.at c.in-Repeat.turns c.in-Repeat.body c.args.over c.in_ok-inside-in-Repeat.inside _ _ c.in-Repeat.is c.in_ok-inside-in-Repeat.ensures.at c.in_ok-inside-in-Repeat.ensures.added

pub returns-in-Event : goal.returns-in-Event
returns-in-Event c = enter_event (tree.get nat_cmp c.args.meanings.now) c.args.count c.args.s.now c.in-Event.at c.in-Event.event c.in-Event.analyses c.in-Event.body c.args.over c.args.edges.now.items c.in-Event.is

pub returns-in_ok-assign-in-Assign : goal.returns-in_ok-assign-in-Assign
returns-in_ok-assign-in-Assign c =
    enter_assign (tree.get nat_cmp c.args.meanings.now) c.args.count c.args.s.now c.in-Assign.at c.in-Assign.target c.in-Assign.value c.args.over _ _ c.in-Assign.is c.in_ok-assign-in-Assign.ensures

pub returns-in-Contribute : goal.returns-in-Contribute
returns-in-Contribute c = enter_contribute (tree.get nat_cmp c.args.meanings.now) c.args.count c.args.s.now c.in-Contribute.at c.in-Contribute.access c.in-Contribute.first c.in-Contribute.second c.in-Contribute.value c.args.over c.args.edges.now.items c.in-Contribute.is

pub returns-in-Task : goal.returns-in-Task
returns-in-Task c = enter_task (tree.get nat_cmp c.args.meanings.now) c.args.count c.args.s.now c.in-Task.at c.in-Task.name c.in-Task.args c.args.over c.args.edges.now.items c.in-Task.is
