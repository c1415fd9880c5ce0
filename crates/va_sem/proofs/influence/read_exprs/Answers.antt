use Rattle.std.specs.Ordering.{nat_cmp}
use Rattle.std.specs.BTreeMap as tree
use Rattle.std.proofs.Common.{refl, arith}
use Rattle.va_sem.specs.rules.Findings.{in_expr}
use Rattle.va_sem.proofs.InfluenceWalk.{reads_start, reads_next, reads_end}
use Rattle.va_sem.proofs.influence.read_exprs.Goals as goal

pub loop-value-init : goal.loop-value-init
loop-value-init c = reads_start (tree.get nat_cmp c.args.meanings.now) c.args.count c.args.target in_expr c.args.values.now c.args.edges.now.items

pub loop-value-preserved : goal.loop-value-preserved
loop-value-preserved c =
    reads_next (tree.get nat_cmp c.args.meanings.now) c.args.count c.args.target in_expr c.args.values.now c.args.edges.now.items c.loop-value.value-index c.loop-value.edges.items c.read.new.edges.items c.value-item.result _ c.loop-value-test.true c.value-item.is refl c.in_ok-read.ensures c.loop-value.invariant

pub returns : goal.returns
returns c = reads_end (tree.get nat_cmp c.args.meanings.now) c.args.count c.args.target in_expr c.args.values.now c.args.edges.now.items c.loop-value.value-index c.loop-value.edges.items (omega arith) c.loop-value.invariant
