use Rattle.va_sem.specs.LookedAt.{call_looks}
use Rattle.va_types.proofs.Reading.{ReadsOn}
use Rattle.va_types.proofs.expressions.+read.Given as goal

abbrev pub invariant-read_args-loop-place : goal.invariant-read_args-loop-place
invariant-read_args-loop-place l = ReadsOn l.table (call_looks l.callee l.name) l.args l.fn.found l.place l.found l.types.items
