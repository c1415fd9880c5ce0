use Rattle.c_form_types.proofs.statements.simple_differs.Goals as goal

pub returns-in_ok-right_differs-in-Constant : goal.returns-in_ok-right_differs-in-Constant
returns-in_ok-right_differs-in-Constant c = λ p k. rw (c.in-Constant.is) (c.in_ok-right_differs-in-Constant.ensures p k)

pub returns-in_ok-wanted-in-Head : goal.returns-in_ok-wanted-in-Head
returns-in_ok-wanted-in-Head c = λ p k. rw (c.in-Head.is) (c.in_ok-wanted-in-Head.ensures p k)

pub returns-in_ok-local_set-in-Assign : goal.returns-in_ok-local_set-in-Assign
returns-in_ok-local_set-in-Assign c = λ p k. rw (c.in-Assign.is) (c.in_ok-local_set-in-Assign.ensures p k)

pub returns-in_ok-cell_set-in-SetCell : goal.returns-in_ok-cell_set-in-SetCell
returns-in_ok-cell_set-in-SetCell c = λ p k. rw (c.in-SetCell.is) (c.in_ok-cell_set-in-SetCell.ensures p k)

pub returns-in_ok-wanted-in-SetCollapse : goal.returns-in_ok-wanted-in-SetCollapse
returns-in_ok-wanted-in-SetCollapse c = λ p k. rw (c.in-SetCollapse.is) (c.in_ok-wanted-in-SetCollapse.ensures p k)
