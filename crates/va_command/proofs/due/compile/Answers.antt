use Rattle.va_command.proofs.Reading.{due_missing, due_failed, due_fault}
use Rattle.va_command.proofs.due.compile.Goals as goal

pub returns-in_ok-due-in-Err-Missing-clause-due : goal.returns-in_ok-due-in-Err-Missing-clause-due
returns-in_ok-due-in-Err-Missing-clause-due g c =
    let due = c.in_ok-due-in-Err-Missing.due in
    due_missing _ _ _ _ c.args.file.now due.status due.text.items
    (rw c.in-Err-Missing.field-0-is at c.in-Err-Missing.ensures.answer)
    c.in_ok-due-in-Err-Missing.ensures

pub returns-in_ok-due-in-Err-Failed-clause-due : goal.returns-in_ok-due-in-Err-Failed-clause-due
returns-in_ok-due-in-Err-Failed-clause-due g c =
    let due = c.in_ok-due-in-Err-Failed.due in
    due_failed _ _ _ _ c.args.file.now c.in-Err-Failed.name due.status due.text.items
    (rw c.in-Err-Failed.field-0-is at c.in-Err-Failed.ensures.answer)
    (rw c.in-Err-Failed.field-0-is at c.in_ok-due-in-Err-Failed.ensures)

pub returns-in_ok-due-in-Err-Fault-clause-due : goal.returns-in_ok-due-in-Err-Fault-clause-due
returns-in_ok-due-in-Err-Fault-clause-due g c =
    let due = c.in_ok-due-in-Err-Fault.due in
    due_fault _ _ _ _ c.args.file.now c.in-Err-Fault.fault c.in-Err-Fault.name due.status due.text.items
    (rw c.in-Err-Fault.field-0-is at c.in-Err-Fault.ensures.answer)
    (rw c.in-Err-Fault.field-0-is at c.in_ok-due-in-Err-Fault.ensures)
