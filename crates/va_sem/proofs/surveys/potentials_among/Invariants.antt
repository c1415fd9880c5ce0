use Rattle.va_sem.specs.rules.BranchFacts.{kind_told, HasAll}
use Rattle.va_sem.specs.rules.Findings.{has_potential_kind}
use Rattle.va_sem.proofs.FirstOfEach.{FirstsOn}
use Rattle.va_sem.proofs.surveys.potentials_among.Given as goal

abbrev pub invariant-loop-given : goal.invariant-loop-given
invariant-loop-given l = record {
  firsts : FirstsOn (λ b. has_potential_kind (kind_told l.facts b)) l.ordered l.given-index l.branches.items;
  listed : HasAll l.branches.items l.listed;
}
