use Rattle.alg_laws.specs.ResidueLaws.{residue_laws, residue_copies}
use Rattle.alg_laws.proofs.Euclid.{residue_inverse}
use Rattle.alg_laws.proofs.laws.residues_are_an_algebra.Goals as goal

pub returns-clause-algebra : goal.returns-clause-algebra
returns-clause-algebra c = residue_laws

pub returns-clause-units : goal.returns-clause-units
returns-clause-units c = residue_inverse

pub returns-clause-copies : goal.returns-clause-copies
returns-clause-copies c = residue_copies
