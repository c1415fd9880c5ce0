use Rattle.va_types.proofs.Skipping.{SkipsOn}
use Rattle.va_types.proofs.expressions.+skip.Given as goal

abbrev pub invariant-skip_args-loop-arg : goal.invariant-skip_args-loop-arg
invariant-skip_args-loop-arg l = SkipsOn l.args l.fn.found l.arg-index l.found
