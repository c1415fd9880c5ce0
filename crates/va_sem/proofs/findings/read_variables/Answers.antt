use Rattle.std.specs.Ordering.{nat_cmp}
use Rattle.std.specs.BTreeMap as tree
use Rattle.std.proofs.Common.{refl, arith}
use Rattle.alg_laws.specs.Least.{listed}
use Rattle.va_sem.specs.rules.Findings.{in_variable}
use Rattle.va_sem.proofs.Walks.{reads_next, reads_end}
use Rattle.va_sem.proofs.findings.read_variables.Goals as goal

pub loop-variable-preserved : goal.loop-variable-preserved
loop-variable-preserved c =
    reads_next (tree.get nat_cmp c.args.meanings.now) (listed c.args.biased.now) in_variable c.args.variables.now c.args.findings.now.items c.loop-variable.variable-index c.loop-variable.findings.items c.read_initialiser.new.findings.items c.loop-variable.answer c.in_ok-next.next c.either-answer.result c.variable-item.result _ c.loop-variable-test.true c.variable-item.is (refl) c.in_ok-next.ensures c.either-answer.ensures c.loop-variable.invariant

pub returns : goal.returns
returns c =
    reads_end (tree.get nat_cmp c.args.meanings.now) (listed c.args.biased.now) in_variable c.args.variables.now c.args.findings.now.items c.loop-variable.variable-index c.loop-variable.findings.items c.loop-variable.answer (omega arith) c.loop-variable.invariant
