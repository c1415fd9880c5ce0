use Rattle.std.specs.Ordering.{nat_cmp}
use Rattle.std.specs.BTreeMap as tree
use Rattle.alg_laws.specs.Least.{listed}
use Rattle.va_sem.proofs.Walks.{Completes}
use Rattle.va_sem.proofs.findings.+read.Given as goal

abbrev pub invariant-read_args-loop-arg : goal.invariant-read_args-loop-arg
invariant-read_args-loop-arg l =
    Completes (tree.get nat_cmp l.meanings) (listed l.biased) l.args l.fn.count l.fn.findings.items l.arg-index l.left l.findings.items l.answer
