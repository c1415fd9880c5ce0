use Rattle.std.proofs.Common.{◌∙◌}
use Rattle.va_sem.proofs.Places.{row_holds}
use Rattle.va_sem.proofs.builtin.builtin_at.Goals as goal

pub returns : goal.returns
returns c = c.function_at.ensures ∙ row_holds c.args.row c.if-row-eq0.false
