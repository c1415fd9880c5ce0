use Rattle.std.proofs.Common.{rules, ◌<◌, length, get_or}
use Rattle.graphs.proofs.Spreading.{visit_init, visit_step, visit_end, row_has}
use Rattle.graphs.proofs.Gathering.{grows_same, grows_mark, grows_on}
use Rattle.graphs.proofs.worklist.visit.Goals as goal

pub loop-target-init : goal.loop-target-init
loop-target-init c = record { visits = visit_init _ _ _ _ _ _ _ c.requires.spreads; grows = grows_same _ _ }

pub mark-requires : goal.mark-requires
mark-requires c =
    let h : get_or c.args.row.now c.loop-target.target-index 0 < length c.args.marked.now =
    (row_has (length c.args.marked.now) c.args.edges.now c.args.row.now c.args.node c.loop-target.target-index c.requires.row c.loop-target-test.true).1 in
    search rules

pub loop-target-preserved : goal.loop-target-preserved
loop-target-preserved c = record {
  visits = visit_step _ _ _ _ _ _ _ _ _ _ _ c.requires.row c.loop-target-test.true c.loop-target.invariant.visits c.in_ok-mark.ensures.marked c.in_ok-mark.ensures.work;
  grows = grows_on _ _ _ _ _ _ c.loop-target.invariant.grows (grows_mark _ _ _ _ _ c.in_ok-mark.ensures.marked c.in_ok-mark.ensures.work);
}

pub returns-clause-spreads : goal.returns-clause-spreads
returns-clause-spreads c = visit_end _ _ _ _ _ _ _ _ _ c.requires.row c.loop-target-test.false c.loop-target.invariant.visits
