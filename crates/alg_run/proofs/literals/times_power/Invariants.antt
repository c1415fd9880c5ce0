use Rattle.std.proofs.Common.{◌≡◌}
use Rattle.alg_laws.specs.LiteralValue.{times_power}
use Rattle.alg_run.proofs.literals.times_power.Given as goal

abbrev pub invariant-loop : goal.invariant-loop
invariant-loop g l = l.product ≡ times_power g.A.Algebra.ops l.factor l.counter l.fn.value
