use Rattle.c_form_types.proofs.atom_types.wanted_by.Goals as goal

pub returns-in_ok-wanted : goal.returns-in_ok-wanted
returns-in_ok-wanted c = λ p k. rw (c.in-Some.is) (c.in_ok-wanted.ensures p k)
