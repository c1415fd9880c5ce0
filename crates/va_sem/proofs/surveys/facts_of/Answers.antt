use Rattle.va_sem.proofs.BranchFacts.{kinds_follow}
use Rattle.va_sem.proofs.surveys.facts_of.Goals as goal

pub returns : goal.returns
returns c = kinds_follow c.args.names.now c.args.m.now c.args.survey.now c.as_list.result.now c.as_slice.result.now c.in_ok-facts.facts c.as_list.ensures c.as_slice.ensures.value c.requires c.in_ok-facts.ensures
