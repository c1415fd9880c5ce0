use Rattle.std.specs.Ordering.{nat_cmp}
use Rattle.std.specs.BTreeMap as tree
use Rattle.va_sem.proofs.InfluenceWalk.{Completes}
use Rattle.va_sem.proofs.influence.+read.Given as goal

abbrev pub invariant-read_args-loop-arg : goal.invariant-read_args-loop-arg
invariant-read_args-loop-arg l = Completes (tree.get nat_cmp l.meanings) l.count l.target l.args l.first l.fn.edges.items l.arg-index l.left l.edges.items
