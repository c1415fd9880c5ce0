use Rattle.c_form_types.proofs.right_sides.operand_differs.Goals as goal

pub returns-in_ok-wanted-in-Contrary : goal.returns-in_ok-wanted-in-Contrary
returns-in_ok-wanted-in-Contrary c = λ p k. rw (c.in-Contrary.is) (c.in_ok-wanted-in-Contrary.ensures p k)

pub returns-in_ok-wanted-in-ToReal : goal.returns-in_ok-wanted-in-ToReal
returns-in_ok-wanted-in-ToReal c = λ p k. rw (c.in-ToReal.is) (c.in_ok-wanted-in-ToReal.ensures p k)

pub returns-in_ok-wanted-in-ToInteger : goal.returns-in_ok-wanted-in-ToInteger
returns-in_ok-wanted-in-ToInteger c = λ p k. rw (c.in-ToInteger.is) (c.in_ok-wanted-in-ToInteger.ensures p k)

pub returns-in_ok-call_differs-in-Call : goal.returns-in_ok-call_differs-in-Call
returns-in_ok-call_differs-in-Call c = λ p k. rw (c.in-Call.is, ← c.as_list.ensures) (c.in_ok-call_differs-in-Call.ensures p k)
