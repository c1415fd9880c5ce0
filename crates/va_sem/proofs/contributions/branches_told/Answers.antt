use Rattle.va_sem.proofs.BranchFacts.{told_more}
use Rattle.va_sem.specs.declared.findings.Finding.TheVariants.{Biased}
use Rattle.va_sem.proofs.contributions.branches_told.Goals as goal

pub loop-finding-preserved : goal.loop-finding-preserved
loop-finding-preserved c =
    λ b. told_more c.args.evidence b c.args.findings.now c.loop-finding.finding-index (Biased 0) _ _ c.told.result c.loop-finding-test.true c.told.ensures (c.loop-finding.invariant b) (c.in_ok-add_told.ensures b)
