use Rattle.std.specs.Prelude.{ℕ, List, false, get_or}
use Rattle.std.proofs.Common.{refl, sym, subst, ap, ◌∙◌}
use Rattle.va_sem.specs.declared.findings.Given.{Given}
use Rattle.va_sem.specs.rules.BranchFacts.{kind_told}
use Rattle.va_sem.specs.rules.Findings.{has_potential_kind, is_among}
use Rattle.va_sem.proofs.FirstOfEach.{FirstsOn, firsts_start, firsts_next}
use Rattle.va_sem.proofs.surveys.potentials_among.Goals as goal

abbrev none : Given
none = record { at = 0; branch = 0; is_flow = false; may_collapse = false }

pub loop-given-init : goal.loop-given-init
loop-given-init c =
    let P = λ (b : ℕ). has_potential_kind (kind_told c.args.facts.now b) in record {
      firsts = subst (λ (out : List ℕ). FirstsOn P c.args.ordered.now 0 out) (sym c.new-branches.ensures.items) (firsts_start P c.args.ordered.now);
      listed = λ b. c.no_branches-listed.ensures b ∙ sym (ap (λ (list : List ℕ). is_among list b) c.new-branches.ensures.items);
    }

pub loop-given-preserved : goal.loop-given-preserved
loop-given-preserved c =
    let P = λ (b : ℕ). has_potential_kind (kind_told c.args.facts.now b) in record {
      firsts = firsts_next P c.args.ordered.now c.loop-given.given-index c.loop-given.branches.items c.add_potential.new.branches.items (get_or c.args.ordered.now c.loop-given.given-index none) none c.loop-given-test.true refl c.in_ok-add_potential.ensures.grown c.loop-given.invariant.firsts;
      listed = c.in_ok-add_potential.ensures.listed;
    }
