use Rattle.va_preproc.proofs.Results.{gives_faults}
use Rattle.va_preproc.proofs.laws.faults_stand_in_files.Goals as goal

-- by the law
pub returns : goal.returns
returns c = gives_faults
