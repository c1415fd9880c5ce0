use Rattle.c_form.proofs.locals.visit.Goals as goal

pub returns-in_ok-simple_used-in-Simple : goal.returns-in_ok-simple_used-in-Simple
returns-in_ok-simple_used-in-Simple c = λ known k. rw (c.in-Simple.is) (c.in_ok-simple_used-in-Simple.ensures known k)

pub returns-in-Leave : goal.returns-in-Leave
returns-in-Leave c = λ known k. rw (c.in-Leave.is) (c.test_used.ensures known k)

pub returns-in-If : goal.returns-in-If
returns-in-If c = λ known k. rw (c.in-If.is) (c.test_used-in-If.ensures known k)
