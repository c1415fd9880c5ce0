use Rattle.std.proofs.Common.{ap}
use Rattle.std.specs.Prelude.{Err}
use Rattle.va_command.proofs.CFiles.{refused_due}
use Rattle.va_command.proofs.read_file.due_of_bytes.Goals as goal

pub returns-in_ok-due-in-Err-Fault : goal.returns-in_ok-due-in-Err-Fault
returns-in_ok-due-in-Err-Fault c =
    let due = c.in_ok-due-in-Err-Fault.due in
    refused_due c.args.file.now c.args.bytes.now c.in-Err-Fault.fault due.status due.text.items
    (c.in-Err-Fault.ensures.fault c.in-Err-Fault.fault (ap (λ x. Err x) c.in-Err-Fault.field-0-is))
    c.in_ok-due-in-Err-Fault.ensures
