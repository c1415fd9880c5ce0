use Rattle.std.specs.Ordering.{nat_cmp}
use Rattle.std.specs.BTreeMap as tree
use Rattle.alg_laws.specs.Least.{listed}
use Rattle.va_sem.specs.rules.Findings.{in_variable}
use Rattle.va_sem.proofs.Walks.{ReadsOn}
use Rattle.va_sem.proofs.findings.read_variables.Given as goal

abbrev pub invariant-loop-variable : goal.invariant-loop-variable
invariant-loop-variable l = ReadsOn (tree.get nat_cmp l.meanings) (listed l.biased) in_variable l.variables l.fn.findings.items l.variable-index l.findings.items l.answer
