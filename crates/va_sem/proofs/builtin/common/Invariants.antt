use Rattle.std.proofs.Common.{◌≡◌, drop}
use Rattle.va_sem.specs.Builtins.{common}
use Rattle.va_sem.proofs.builtin.common.Given as goal

abbrev pub invariant-loop-argument : goal.invariant-loop-argument
invariant-loop-argument l = common (drop l.argument-index l.arguments) ≡ common l.arguments
