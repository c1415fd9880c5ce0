use Rattle.std.specs.Ordering.{nat_cmp}
use Rattle.std.specs.BTreeMap as tree
use Rattle.va_sem.specs.rules.Findings.{in_expr}
use Rattle.va_sem.proofs.InfluenceWalk.{ReadsOn}
use Rattle.va_sem.proofs.influence.read_exprs.Given as goal

abbrev pub invariant-loop-value : goal.invariant-loop-value
invariant-loop-value l = ReadsOn (tree.get nat_cmp l.meanings) l.count l.target in_expr l.values l.fn.edges.items l.value-index l.edges.items
