use Rattle.std.specs.Ordering.{nat_cmp}
use Rattle.std.specs.BTreeMap as tree
use Rattle.std.specs.Prelude.{◌&&◌, ◌||◌, if◌then◌else◌, Bool, false}
use Rattle.std.proofs.Common.{ap, refl, sym, ◌∙◌, arith}
use Rattle.std.proofs.lemmas.Bool.{false≢true}
use Rattle.va_tree.specs.Expressions.{expression_of}
use Rattle.va_tree.specs.StatementLaws.{at_block, at_if, at_case, at_for, at_while, at_repeat, at_event, at_assign, at_contribute, at_task}
use Rattle.va_tree.specs.Statements.{Statement, statement_of, statements_of, items_of, defaults_of}
use Rattle.va_sem.specs.rules.BranchKinds.{always_contributes, some_contributes, each_item_contributes, each_default_contributes}
use Rattle.va_sem.specs.rules.Findings.{is_among, else_contributes, some_default}
use Rattle.va_sem.proofs.BranchSets.{and_turn, adds_none, adds_as, adds_next, adds_end, keeps_next, keeps_end, arms_next, arm_kept}
use Rattle.va_sem.proofs.Covering.{covers_if, covers_case, some_if, arms_end}
use Rattle.va_sem.proofs.coverage.+always.Goals as goal

pub always-returns-in_ok-done-in-Block : goal.always-returns-in_ok-done-in-Block
always-returns-in_ok-done-in-Block t c =
    adds_as _ _ _ _ (λ b. sym (ap (always_contributes (tree.get nat_cmp c.args.meanings.now) b) (at_block c.args.s.now c.in-Block.at c.in-Block.label c.in-Block.declarations c.in-Block.body c.in-Block.declarations c.as_slice.result.now c.in-Block.is refl (sym c.as_slice.ensures)))) c.in_ok-done-in-Block.ensures

pub always-returns-in_ok-done-in-If : goal.always-returns-in_ok-done-in-If
always-returns-in_ok-done-in-If t c =
    adds_as _ _ _ _ (λ b. ap (λ list. is_among list b) c.as_slice-in-If.ensures.value ∙ c.in_ok-keep_else-in-If.ensures b
    ∙ ap (λ v. v && else_contributes (tree.get nat_cmp c.args.meanings.now) b c.in-If.no) (c.in_ok-common-in-If.ensures b)
    ∙ covers_if (tree.get nat_cmp c.args.meanings.now) b c.in-If.at (expression_of c.in-If.test) (statement_of c.get.result.now) c.in-If.no
    ∙ sym (ap (always_contributes (tree.get nat_cmp c.args.meanings.now) b) (at_if c.args.s.now c.in-If.at c.in-If.test c.in-If.yes c.in-If.no c.get.result.now c.in-If.is (sym c.get.ensures)))) c.in_ok-done-in-If.ensures

pub always-returns-in_ok-done-in-Case : goal.always-returns-in_ok-done-in-Case
always-returns-in_ok-done-in-Case t c =
    adds_as _ _ _ _ (λ b. ap (λ list. is_among list b) c.as_slice-in-Case-3.ensures.value ∙ c.in_ok-keep_items-in-Case.ensures b
    ∙ ap (λ v. v && each_item_contributes (tree.get nat_cmp c.args.meanings.now) b (items_of c.as_slice-in-Case-2.result.now)) (c.in_ok-common-in-Case.ensures b)
    ∙ and_turn (some_default c.as_slice-in-Case.result.now) (each_default_contributes (tree.get nat_cmp c.args.meanings.now) b (defaults_of c.as_slice-in-Case.result.now)) (each_item_contributes (tree.get nat_cmp c.args.meanings.now) b (items_of c.as_slice-in-Case-2.result.now))
    ∙ covers_case (tree.get nat_cmp c.args.meanings.now) b c.in-Case.at (expression_of c.in-Case.selector) c.as_slice-in-Case-2.result.now c.as_slice-in-Case.result.now
    ∙ sym (ap (always_contributes (tree.get nat_cmp c.args.meanings.now) b) (at_case c.args.s.now c.in-Case.at c.in-Case.selector c.in-Case.items c.in-Case.defaults c.as_slice-in-Case-2.result.now c.as_slice-in-Case.result.now c.in-Case.is (sym c.as_slice-in-Case-2.ensures) (sym c.as_slice-in-Case.ensures)))) c.in_ok-done-in-Case.ensures

pub always-returns-in-Null : goal.always-returns-in-Null
always-returns-in-Null t c = adds_none _ _ (λ b. ap (λ s. always_contributes (tree.get nat_cmp c.args.meanings.now) b (statement_of s)) c.in-Null.is)

pub always-returns-in-For : goal.always-returns-in-For
always-returns-in-For t c = adds_none _ _ (λ b. ap (always_contributes (tree.get nat_cmp c.args.meanings.now) b) (at_for c.args.s.now c.in-For.at c.in-For.first c.in-For.test c.in-For.step c.in-For.body c.in-For.body c.in-For.is refl))

pub always-returns-in-While : goal.always-returns-in-While
always-returns-in-While t c = adds_none _ _ (λ b. ap (always_contributes (tree.get nat_cmp c.args.meanings.now) b) (at_while c.args.s.now c.in-While.at c.in-While.test c.in-While.body c.in-While.body c.in-While.is refl))

pub always-returns-in-Repeat : goal.always-returns-in-Repeat
always-returns-in-Repeat t c = adds_none _ _ (λ b. ap (always_contributes (tree.get nat_cmp c.args.meanings.now) b) (at_repeat c.args.s.now c.in-Repeat.at c.in-Repeat.count c.in-Repeat.body c.in-Repeat.body c.in-Repeat.is refl))

pub always-returns-in_ok-done-in-Event : goal.always-returns-in_ok-done-in-Event
always-returns-in_ok-done-in-Event t c =
    adds_as _ _ _ _ (λ b. ap (λ (e : Bool). e && always_contributes (tree.get nat_cmp c.args.meanings.now) b (statement_of c.get-then-is_evaluated.result.now)) (sym c.if-is_evaluated.true ∙ c.is_evaluated.ensures)
    ∙ sym (ap (always_contributes (tree.get nat_cmp c.args.meanings.now) b) (at_event c.args.s.now c.in-Event.at c.in-Event.event c.in-Event.analyses c.in-Event.body c.get-then-is_evaluated.result.now c.in-Event.is (sym c.get-then-is_evaluated.ensures)))) c.in_ok-done-in-Event.ensures

pub always-returns-else-is_evaluated : goal.always-returns-else-is_evaluated
always-returns-else-is_evaluated t c =
    adds_none _ _ (λ b. ap (always_contributes (tree.get nat_cmp c.args.meanings.now) b) (at_event c.args.s.now c.in-Event.at c.in-Event.event c.in-Event.analyses c.in-Event.body c.in-Event.body c.in-Event.is refl)
    ∙ ap (λ (e : Bool). e && always_contributes (tree.get nat_cmp c.args.meanings.now) b (statement_of c.in-Event.body)) (sym c.is_evaluated.ensures ∙ c.if-is_evaluated.false))

pub always-returns-in-Assign : goal.always-returns-in-Assign
always-returns-in-Assign t c = adds_none _ _ (λ b. ap (always_contributes (tree.get nat_cmp c.args.meanings.now) b) (at_assign c.args.s.now c.in-Assign.at c.in-Assign.target c.in-Assign.value c.in-Assign.is))

pub always-returns-in_ok-done-in-Contribute : goal.always-returns-in_ok-done-in-Contribute
always-returns-in_ok-done-in-Contribute t c =
    adds_as _ _ _ _ (λ b. ap (Rattle.va_sem.specs.rules.Uses.is_access_to b) c.meaning_at.ensures
    ∙ sym (ap (always_contributes (tree.get nat_cmp c.args.meanings.now) b) (at_contribute c.args.s.now c.in-Contribute.at c.in-Contribute.access c.in-Contribute.first c.in-Contribute.second c.in-Contribute.value c.in-Contribute.is))) c.in_ok-done-in-Contribute.ensures

pub always-returns-in-Task : goal.always-returns-in-Task
always-returns-in-Task t c = adds_none _ _ (λ b. ap (always_contributes (tree.get nat_cmp c.args.meanings.now) b) (at_task c.args.s.now c.in-Task.at c.in-Task.name c.in-Task.args c.in-Task.args c.in-Task.is refl))

pub always_in-loop-s-preserved : goal.always_in-loop-s-preserved
always_in-loop-s-preserved t c =
    adds_next (λ b body. some_contributes (tree.get nat_cmp c.args.meanings.now) b (statements_of body)) (λ b s. always_contributes (tree.get nat_cmp c.args.meanings.now) b (statement_of s)) (λ b s rest. refl) c.args.body.now c.args.branches.now.items c.loop-s.s-index c.loop-s.branches.items c.always.new.branches.items c.s-item.result c.loop-s-test.true c.s-item.is c.in_ok-always.ensures c.loop-s.invariant

pub always_in-returns : goal.always_in-returns
always_in-returns t c =
    adds_end (λ b body. some_contributes (tree.get nat_cmp c.args.meanings.now) b (statements_of body)) (λ b s. always_contributes (tree.get nat_cmp c.args.meanings.now) b (statement_of s)) (λ b. refl) c.args.body.now c.args.branches.now.items c.loop-s.s-index c.loop-s.branches.items (omega arith) c.loop-s.invariant

pub keep_items-loop-item-preserved : goal.keep_items-loop-item-preserved
keep_items-loop-item-preserved t c =
    keeps_next (λ b items. each_item_contributes (tree.get nat_cmp c.args.meanings.now) b (items_of items)) (λ b item. always_contributes (tree.get nat_cmp c.args.meanings.now) b (statement_of item.body)) (λ b item rest. refl) c.args.items.now c.args.common.now.items c.loop-item.item-index c.loop-item.common.items c.keep.new.common.items c.item-item.result c.loop-item-test.true c.item-item.is c.in_ok-keep.ensures c.loop-item.invariant

pub keep_items-returns : goal.keep_items-returns
keep_items-returns t c =
    keeps_end (λ b items. each_item_contributes (tree.get nat_cmp c.args.meanings.now) b (items_of items)) (λ b item. always_contributes (tree.get nat_cmp c.args.meanings.now) b (statement_of item.body)) (λ b. refl) c.args.items.now c.args.common.now.items c.loop-item.item-index c.loop-item.common.items (omega arith) c.loop-item.invariant

pub keep_arm-returns : goal.keep_arm-returns
keep_arm-returns t c =
    arm_kept c.args.is_first c.args.common.now.items c.in_ok-arm.arm.items c.chosen-base.result.now c.in_ok-next.next.items (λ b. always_contributes (tree.get nat_cmp c.args.meanings.now) b (statement_of c.args.s.now))
    (c.chosen-base.ensures ∙ (λ j. if c.args.is_first then c.as_slice.ensures.value j else c.as_slice-2.ensures.value j))
    (λ b. c.in_ok-next.ensures b ∙ ap (λ list. is_among c.chosen-base.result.now b && is_among list b) c.as_slice-3.ensures.value) c.in_ok-arm.ensures

pub always_in_defaults-loop-default-init : goal.always_in_defaults-loop-default-init
always_in_defaults-loop-default-init t c = record { kept = λ b. refl; start = λ h. (refl, c.new-common.ensures.items); later = λ h. absurd (false≢true (sym h)) }

pub always_in_defaults-loop-default-preserved : goal.always_in_defaults-loop-default-preserved
always_in_defaults-loop-default-preserved t c = record {
  kept = arms_next (λ b defaults. each_default_contributes (tree.get nat_cmp c.args.meanings.now) b (defaults_of defaults)) (λ b default. always_contributes (tree.get nat_cmp c.args.meanings.now) b (statement_of default.body)) (λ b default rest. refl) c.args.defaults.now c.loop-default.default-index
      (λ b. c.loop-default.is_first || is_among c.loop-default.common.items b) c.keep_arm.new.common.items c.default-item.result c.loop-default-test.true c.default-item.is c.in_ok-keep_arm.ensures c.loop-default.invariant.kept;
  start = λ h. absurd (false≢true h);
  later = λ h. some_if c.args.defaults.now c.loop-default.default-index c.loop-default-test.true;
}

pub always_in_defaults-returns : goal.always_in_defaults-returns
always_in_defaults-returns t c =
    arms_end (tree.get nat_cmp c.args.meanings.now) c.loop-default.is_first c.args.defaults.now c.loop-default.default-index c.loop-default.common.items (omega arith) c.loop-default.invariant.kept c.loop-default.invariant.start c.loop-default.invariant.later
