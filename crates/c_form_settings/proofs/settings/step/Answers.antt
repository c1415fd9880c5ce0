use Rattle.c_form.proofs.Blaming.{◌▸◌, blames_none}
use Rattle.c_form_settings.proofs.Keeping.{break-steps, choice-steps, end-steps, loop-steps}
use Rattle.c_form_settings.proofs.settings.step.Goals as goal

pub returns-in_ok-leave-in-Leave : goal.returns-in_ok-leave-in-Leave
returns-in_ok-leave-in-Leave c = λ h.
    rw c.in-Leave.is (break-steps _ _ c.args.pass.now _ c.in-Leave.at c.in-Leave.test (c.read.ensures ▸ blames_none _) h (c.in_ok-leave-in-Leave.ensures h))

pub returns-in_ok-open_choice-in-If : goal.returns-in_ok-open_choice-in-If
returns-in_ok-open_choice-in-If c = λ h.
    rw c.in-If.is (choice-steps _ _ c.args.pass.now _ c.in-If.test (c.read-in-If.ensures ▸ blames_none _) h (c.in_ok-open_choice-in-If.ensures h))

pub returns-in_ok-open_loop-in-For : goal.returns-in_ok-open_loop-in-For
returns-in_ok-open_loop-in-For c = λ h. rw c.in-For.is (loop-steps _ c.args.pass.now _ h (c.in_ok-open_loop-in-For.ensures h))

pub returns-in_ok-close-in-End : goal.returns-in_ok-close-in-End
returns-in_ok-close-in-End c = λ h.
    rw c.in-End.is (end-steps _ _ c.args.pass.now _ c.in-End.at c.in_ok-close-in-End.ensures.blames h (c.in_ok-close-in-End.ensures.moves h))
