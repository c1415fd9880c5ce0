use Rattle.c_form.proofs.argument_uses.ArgumentsItemRule.blame_atom.Goals as goal

pub returns : goal.returns
returns c = λ b k. c.argument_used.ensures b k
