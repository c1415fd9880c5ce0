use Rattle.c_form.proofs.scope.declare_of.Goals as goal

pub returns-in_ok-declare-in-Constant : goal.returns-in_ok-declare-in-Constant
returns-in_ok-declare-in-Constant c = λ known outer s. rw (c.in-Constant.is) (c.in_ok-declare-in-Constant.ensures known outer s)

pub returns-in_ok-declare-in-Join : goal.returns-in_ok-declare-in-Join
returns-in_ok-declare-in-Join c = λ known outer s. rw (c.in-Join.is) (c.in_ok-declare-in-Join.ensures known outer s)

pub returns-in_ok-declare-in-Head : goal.returns-in_ok-declare-in-Head
returns-in_ok-declare-in-Head c = λ known outer s. rw (c.in-Head.is) (c.in_ok-declare-in-Head.ensures known outer s)
