use Rattle.c_form.proofs.items.statement_items.Goals as goal

pub returns-in_ok-simple-in-Simple : goal.returns-in_ok-simple-in-Simple
returns-in_ok-simple-in-Simple g c = λ p k. rw (c.in-Simple.is) (c.in_ok-simple-in-Simple.ensures p k)

pub returns-in_ok-blame_atom-in-Leave : goal.returns-in_ok-blame_atom-in-Leave
returns-in_ok-blame_atom-in-Leave g c = λ p k. rw (c.in-Leave.is) (c.in_ok-blame_atom-in-Leave.ensures p k)

pub returns-in_ok-blame_atom-in-If : goal.returns-in_ok-blame_atom-in-If
returns-in_ok-blame_atom-in-If g c = λ p k. rw (c.in-If.is) (c.in_ok-blame_atom-in-If.ensures p k)
