use Rattle.std.proofs.Common.{◌<◌}
use Rattle.alg_laws.specs.Residue.{modulus, residue_recip}
use Rattle.alg_run.proofs.Euclid.{ComesTo}
use Rattle.alg_run.proofs.residue.inverse.Given as goal

abbrev pub invariant-steps : goal.invariant-steps
invariant-steps l = record {
  comes_to : ComesTo (residue_recip l.fn.number) l.last l.of_last l.next l.of_next;
  falls : l.next < l.last;
  within : l.last < 1000004;
  last : l.of_last < modulus;
  next : l.of_next < modulus;
}

abbrev pub decreases-steps : goal.decreases-steps
decreases-steps l = l.next
