use Rattle.std.specs.Prelude.{flat_map}
use Rattle.std.specs.Ordering.{nat_cmp}
use Rattle.std.specs.BTreeMap as tree
use Rattle.std.proofs.Common.{ap, arith}
use Rattle.alg_laws.specs.Least.{listed}
use Rattle.va_sem.specs.rules.Findings.{in_item, in_expr}
use Rattle.va_sem.proofs.Walks.{reads_next, reads_end}
use Rattle.va_sem.proofs.findings.read_items.Goals as goal

pub loop-item-preserved : goal.loop-item-preserved
loop-item-preserved c =
    reads_next (tree.get nat_cmp c.args.meanings.now) (listed c.args.biased.now) in_item c.args.items.now c.args.findings.now.items c.loop-item.item-index c.loop-item.findings.items c.read_exprs.new.findings.items c.loop-item.answer c.in_ok-next.next c.either-answer.result c.item-item.result _ c.loop-item-test.true c.item-item.is (ap (flat_map in_expr) c.as_list.ensures) c.in_ok-next.ensures c.either-answer.ensures c.loop-item.invariant

pub returns : goal.returns
returns c =
    reads_end (tree.get nat_cmp c.args.meanings.now) (listed c.args.biased.now) in_item c.args.items.now c.args.findings.now.items c.loop-item.item-index c.loop-item.findings.items c.loop-item.answer (omega arith) c.loop-item.invariant
