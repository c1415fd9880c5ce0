use Rattle.std.specs.Ordering.{nat_cmp}
use Rattle.std.specs.BTreeMap as tree
use Rattle.std.proofs.Common.{refl, arith}
use Rattle.alg_laws.specs.Least.{listed}
use Rattle.va_sem.specs.rules.Findings.{in_expr}
use Rattle.va_sem.proofs.Walks.{reads_next, reads_end}
use Rattle.va_sem.proofs.findings.read_exprs.Goals as goal

pub loop-value-preserved : goal.loop-value-preserved
loop-value-preserved c =
    reads_next (tree.get nat_cmp c.args.meanings.now) (listed c.args.biased.now) in_expr c.args.values.now c.args.findings.now.items c.loop-value.value-index c.loop-value.findings.items c.read.new.findings.items c.loop-value.answer c.in_ok-next.next c.either-answer.result c.value-item.result _ c.loop-value-test.true c.value-item.is (refl) c.in_ok-next.ensures c.either-answer.ensures c.loop-value.invariant

pub returns : goal.returns
returns c =
    reads_end (tree.get nat_cmp c.args.meanings.now) (listed c.args.biased.now) in_expr c.args.values.now c.args.findings.now.items c.loop-value.value-index c.loop-value.findings.items c.loop-value.answer (omega arith) c.loop-value.invariant
