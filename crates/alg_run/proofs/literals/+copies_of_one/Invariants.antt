use Rattle.alg_run.proofs.literals.+copies_of_one.Given as goal

abbrev pub decreases-copies_of_one : goal.decreases-copies_of_one
decreases-copies_of_one g l = l.count
