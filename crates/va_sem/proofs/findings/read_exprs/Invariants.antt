use Rattle.std.specs.Ordering.{nat_cmp}
use Rattle.std.specs.BTreeMap as tree
use Rattle.alg_laws.specs.Least.{listed}
use Rattle.va_sem.specs.rules.Findings.{in_expr}
use Rattle.va_sem.proofs.Walks.{ReadsOn}
use Rattle.va_sem.proofs.findings.read_exprs.Given as goal

abbrev pub invariant-loop-value : goal.invariant-loop-value
invariant-loop-value l = ReadsOn (tree.get nat_cmp l.meanings) (listed l.biased) in_expr l.values l.fn.findings.items l.value-index l.findings.items l.answer
