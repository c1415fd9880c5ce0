use Rattle.std.proofs.Common.{◌≡◌, ◌++◌, drop}
use Rattle.std.specs.Prelude.{flat_map}
use Rattle.va_sem.specs.rules.Findings.{given_in}
use Rattle.va_sem.proofs.contributions.givens_of.Given as goal

abbrev pub invariant-loop-finding : goal.invariant-loop-finding
invariant-loop-finding l = l.givens.items ++ flat_map given_in (drop l.finding-index l.findings) ≡ flat_map given_in l.findings
