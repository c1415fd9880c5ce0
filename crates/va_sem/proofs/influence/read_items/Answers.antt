use Rattle.std.specs.Ordering.{nat_cmp}
use Rattle.std.specs.BTreeMap as tree
use Rattle.std.specs.Prelude.{flat_map}
use Rattle.std.proofs.Common.{ap, arith}
use Rattle.va_sem.specs.rules.Findings.{in_item, in_expr}
use Rattle.va_sem.proofs.InfluenceWalk.{reads_start, reads_next, reads_end}
use Rattle.va_sem.proofs.influence.read_items.Goals as goal

pub loop-item-init : goal.loop-item-init
loop-item-init c = reads_start (tree.get nat_cmp c.args.meanings.now) c.args.count c.args.target in_item c.args.items.now c.args.edges.now.items

pub loop-item-preserved : goal.loop-item-preserved
loop-item-preserved c =
    reads_next (tree.get nat_cmp c.args.meanings.now) c.args.count c.args.target in_item c.args.items.now c.args.edges.now.items c.loop-item.item-index c.loop-item.edges.items c.read_exprs.new.edges.items c.item-item.result _ c.loop-item-test.true c.item-item.is (ap (flat_map in_expr) c.as_list.ensures) c.in_ok-read_exprs.ensures c.loop-item.invariant

pub returns : goal.returns
returns c = reads_end (tree.get nat_cmp c.args.meanings.now) c.args.count c.args.target in_item c.args.items.now c.args.edges.now.items c.loop-item.item-index c.loop-item.edges.items (omega arith) c.loop-item.invariant
