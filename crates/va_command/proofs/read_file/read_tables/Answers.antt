use Rattle.std.proofs.Common.{arith}
use Rattle.va_command.proofs.CFiles.{due_read, due_lacking, due_failing}
use Rattle.va_command.proofs.read_file.read_tables.Goals as goal

pub returns-in_ok-due-in-Ok-clause-due : goal.returns-in_ok-due-in-Ok-clause-due
returns-in_ok-due-in-Ok-clause-due g c =
    let due = c.in_ok-due-in-Ok.due in
    due_read g.A.Algebra.ops g.A.Algebra.valid _ _ c.args.file.now c.in-Ok.bytes.items due.status due.text.items c.in-Ok.ensures.asked c.in-Ok.ensures.bytes
    (rw (← c.as_slice.ensures.value) c.in_ok-due-in-Ok.ensures)

pub returns-in_ok-due-in-Err-Missing-clause-due : goal.returns-in_ok-due-in-Err-Missing-clause-due
returns-in_ok-due-in-Err-Missing-clause-due g c =
    let due = c.in_ok-due-in-Err-Missing.due in
    due_lacking g.A.Algebra.ops g.A.Algebra.valid _ _ c.args.file.now due.status due.text.items (c.in-Err-Missing.ensures.missing (grind arith))
    (rw c.in-Err-Missing.field-0-is at c.in-Err-Missing.ensures.asked) c.in_ok-due-in-Err-Missing.ensures

pub returns-in_ok-due-in-Err-Failed-clause-due : goal.returns-in_ok-due-in-Err-Failed-clause-due
returns-in_ok-due-in-Err-Failed-clause-due g c =
    let due = c.in_ok-due-in-Err-Failed.due in
    due_failing g.A.Algebra.ops g.A.Algebra.valid _ _ c.args.file.now due.status due.text.items (c.in-Err-Failed.ensures.failed (grind arith))
    (rw c.in-Err-Failed.field-0-is at c.in-Err-Failed.ensures.asked) c.in_ok-due-in-Err-Failed.ensures
