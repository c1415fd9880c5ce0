use Rattle.std.specs.Int.{w128, int_rem_euclid}
use Rattle.std.specs.Prelude.{FitsSigned, pos, unsigned_abs}
use Rattle.std.proofs.Common.{ap, ◌∙◌, rules}
use Rattle.std.proofs.lemmas.Int.{to_z-of_z}
use Rattle.alg_laws.specs.Residue.{modulus}
use Rattle.alg_run.proofs.Remainders.{remainder_is_value}
use Rattle.alg_run.proofs.residue.Residue.of.Goals as goal

pub returns-clause-copies : goal.returns-clause-copies
returns-clause-copies c =
    let fits : FitsSigned w128 c.rem_euclid.result = search rules in
    ap unsigned_abs
    (to_z-of_z w128 c.rem_euclid.result fits
    ∙ c.rem_euclid.ensures.value
    ∙ ap (λ z. int_rem_euclid z (pos modulus)) (to_z-of_z w128 c.args.n c.ranges.n)
    ∙ remainder_is_value c.args.n)
