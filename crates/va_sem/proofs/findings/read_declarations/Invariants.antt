use Rattle.std.specs.Ordering.{nat_cmp}
use Rattle.std.specs.BTreeMap as tree
use Rattle.alg_laws.specs.Least.{listed}
use Rattle.va_sem.specs.rules.Findings.{in_declaration}
use Rattle.va_sem.proofs.Walks.{ReadsOn}
use Rattle.va_sem.proofs.findings.read_declarations.Given as goal

abbrev pub invariant-loop-declaration : goal.invariant-loop-declaration
invariant-loop-declaration l = ReadsOn (tree.get nat_cmp l.meanings) (listed l.biased) in_declaration l.declarations l.fn.findings.items l.declaration-index l.findings.items l.answer
