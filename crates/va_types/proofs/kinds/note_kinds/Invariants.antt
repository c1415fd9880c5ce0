use Rattle.va_sem.specs.Builtins.{taken_at}
use Rattle.va_types.proofs.FittingKinds.{KindsOn}
use Rattle.va_types.proofs.kinds.note_kinds.Given as goal

abbrev pub invariant-loop-place : goal.invariant-loop-place
invariant-loop-place l = KindsOn l.table.uses (taken_at l.callee l.name) l.args l.fn.found l.place l.found l.all
