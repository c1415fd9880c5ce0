use Rattle.std.proofs.Common.{◌∷◌}
use Rattle.c_form.proofs.scope.go_behind.Goals as goal

pub returns-in_ok-declare_of-in-Simple : goal.returns-in_ok-declare_of-in-Simple
returns-in_ok-declare_of-in-Simple c = λ known outer s. rw (c.in-Simple.is) (c.in_ok-declare_of-in-Simple.ensures known outer s)

pub returns-in_ok-open_block-in-If-2 : goal.returns-in_ok-open_block-in-If-2
returns-in_ok-open_block-in-If-2 c = λ known outer s. rw (c.in-If.is) (c.in_ok-open_block-in-If-2.ensures known (known ∷ outer) (c.in_ok-open_block-in-If.ensures known outer s))

pub returns-in_ok-open_block-in-For : goal.returns-in_ok-open_block-in-For
returns-in_ok-open_block-in-For c = λ known outer s. rw (c.in-For.is) (c.in_ok-open_block-in-For.ensures known outer s)

pub returns-in_ok-close_block-in-End : goal.returns-in_ok-close_block-in-End
returns-in_ok-close_block-in-End c = λ known outer s. rw (c.in-End.is) (c.in_ok-close_block-in-End.ensures known outer s)
