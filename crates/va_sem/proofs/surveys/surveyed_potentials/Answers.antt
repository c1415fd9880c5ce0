use Rattle.std.specs.Prelude.{ℕ, List, map, filter}
use Rattle.std.proofs.Common.{ap, ◌∙◌}
use Rattle.va_sem.specs.declared.findings.Given.{Given}
use Rattle.va_sem.specs.Declarations.{analog_bodies}
use Rattle.va_sem.specs.TextOrder.{in_text_order}
use Rattle.va_sem.specs.rules.Biased.{analysis_of}
use Rattle.va_sem.specs.rules.BranchKinds.{kind_of}
use Rattle.va_sem.specs.rules.Findings.{has_potential_kind}
use Rattle.va_sem.specs.rules.Unknowns.{first_of_each}
use Rattle.va_sem.proofs.KindsFound.{branches_found}
use Rattle.va_sem.proofs.surveys.surveyed_potentials.Goals as goal

pub returns : goal.returns
returns c =
    let a = analysis_of c.args.names.now (analog_bodies c.args.m.now) in
    c.in_ok-branches.ensures
    ∙ (λ j. filter (λ b. has_potential_kind (c.in_ok-facts.ensures b j)) (first_of_each (map (λ (g : Given). g.branch) c.as_slice-2.result.now)))
    ∙ ap (λ (list : List ℕ). filter (λ b. has_potential_kind (kind_of a b)) (first_of_each list))
    (ap (map (λ (g : Given). g.branch)) c.as_slice-2.ensures.value
    ∙ branches_found a c.args.survey.now.findings.items c.args.survey.now.givens.items c.in_ok-ordered.ordered.items c.requires.findings c.requires.givens (c.in_ok-ordered.ensures ∙ ap (in_text_order (λ (g : Given). g.at)) c.as_slice.ensures.value))
