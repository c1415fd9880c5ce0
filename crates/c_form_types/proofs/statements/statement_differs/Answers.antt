use Rattle.c_form_types.proofs.statements.statement_differs.Goals as goal

pub returns-in_ok-simple_differs-in-Simple : goal.returns-in_ok-simple_differs-in-Simple
returns-in_ok-simple_differs-in-Simple c = λ p k. rw (c.in-Simple.is) (c.in_ok-simple_differs-in-Simple.ensures p k)

pub returns-in_ok-wanted-in-Leave : goal.returns-in_ok-wanted-in-Leave
returns-in_ok-wanted-in-Leave c = λ p k. rw (c.in-Leave.is) (c.in_ok-wanted-in-Leave.ensures p k)

pub returns-in_ok-wanted-in-If : goal.returns-in_ok-wanted-in-If
returns-in_ok-wanted-in-If c = λ p k. rw (c.in-If.is) (c.in_ok-wanted-in-If.ensures p k)
