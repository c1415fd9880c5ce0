use Rattle.std.proofs.Common.{refl, ap}
use Rattle.std.specs.Prelude.{Err}
use Rattle.va_command.proofs.CFiles.{answered_fault, same_refusal}
use Rattle.va_command.proofs.read_file.file_within.Goals as goal

pub returns-in-Err-clause-fault : goal.returns-in-Err-clause-fault
returns-in-Err-clause-fault c = λ fault e.
    answered_fault c.args.bytes.now c.requires c.in-Err.error c.refusal_of.result fault c.refusal_of.ensures (same_refusal _ _ _ _ refl refl e)
    (λ at k. c.in-Err.ensures.bad at (ap (λ x. Err x) k)) (λ at k. c.in-Err.ensures.syntax at (ap (λ x. Err x) k))
    (λ at k. c.in-Err.ensures.form at (ap (λ x. Err x) k))
