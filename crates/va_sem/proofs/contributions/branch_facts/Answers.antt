use Rattle.std.specs.List.{list_any}
use Rattle.std.proofs.Common.{◌∙◌, ap}
use Rattle.va_sem.specs.rules.Findings.{is_among}
use Rattle.va_sem.proofs.contributions.branch_facts.Goals as goal

pub returns : goal.returns
returns c = record {
  potentials = c.in_ok-potentials.ensures;
  firm = c.in_ok-firm.ensures;
  flows = c.in_ok-flows.ensures;
  reads = c.in_ok-reads.ensures;
  covered = λ b. c.in_ok-covered.ensures b ∙ ap (λ list. is_among list b) c.as_slice.ensures.value ∙ c.in_ok-list.ensures b;
}
