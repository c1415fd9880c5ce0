use Rattle.va_preproc.proofs.Whole.{gives_expanded}
use Rattle.va_preproc.proofs.laws.results_are_expanded.Goals as goal

-- by the law
pub returns : goal.returns
returns c = gives_expanded
