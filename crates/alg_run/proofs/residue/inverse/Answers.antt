use Rattle.std.proofs.Common.{sym, ap, arith}
use Rattle.std.proofs.Math.Nat.{mod-eq_of_lt}
use Rattle.std.proofs.lemmas.Nat.{mod_below}
use Rattle.alg_laws.specs.Residue.{modulus, inverse_by}
use Rattle.alg_run.proofs.Euclid.{after_step}
use Rattle.alg_run.proofs.residue.inverse.Goals as goal

pub steps-init : goal.steps-init
steps-init c = record {
  comes_to = (40, omega (arith, c.requires), ap (λ y. inverse_by modulus 41 modulus 0 y 1) (sym (mod-eq_of_lt c.requires)));
  falls = omega (arith, c.requires);
  within = omega arith;
  last = omega arith;
  next = omega arith;
}

pub steps-preserved : goal.steps-preserved
steps-preserved c =
    let h = c.steps.invariant in
    record {
      comes_to =
          after_step _ c.steps.last c.steps.of_last c.steps.next c.steps.of_next (omega (arith, c.steps-test.true))
          (omega (arith, h.falls)) h.comes_to;
      falls = mod_below c.steps.last c.steps.next (omega (arith, c.steps-test.true));
      within = omega (arith, h.falls, h.within);
      last = h.next;
      next = mod_below _ modulus (omega arith);
    }
