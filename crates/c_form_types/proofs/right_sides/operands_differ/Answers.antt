use Rattle.c_form_types.proofs.right_sides.operands_differ.Goals as goal

pub returns-in_ok-two_operands : goal.returns-in_ok-two_operands
returns-in_ok-two_operands c = λ p k. rw (c.in-Binary.is) (c.in_ok-two_operands.ensures p k)
