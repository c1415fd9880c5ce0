use Rattle.std.proofs.Common.{rules, ◌<◌, length, get_or, refl}
use Rattle.graphs.proofs.Spreading.{row_has}
use Rattle.graphs.proofs.Marking.{give_init, give_step, give_end, held_below}
use Rattle.graphs.proofs.marks.give.Goals as goal

pub loop-target-init : goal.loop-target-init
loop-target-init c = give_init _ _ _ _ _ _ _ _ c.requires.hands refl

pub add-requires : goal.add-requires
add-requires c =
    let h : get_or c.args.row.now c.loop-target.target-index 0 < length c.args.marks.now =
    (row_has (length c.args.marks.now) c.args.edges.now c.args.row.now c.args.node c.loop-target.target-index c.requires.row c.loop-target-test.true).1 in
    search rules

pub loop-target-preserved : goal.loop-target-preserved
loop-target-preserved c =
    give_step _ _ _ _ _ _ _ _ _ _ _ _ c.requires.row c.loop-target-test.true c.loop-target.invariant c.in_ok-add.ensures.marks c.in_ok-add.ensures.work c.in_ok-add.ensures.count

pub returns-clause-hands : goal.returns-clause-hands
returns-clause-hands c = give_end _ _ _ _ _ _ _ _ _ _ c.requires.row c.loop-target-test.false c.loop-target.invariant

pub bounds-marks-node : goal.bounds-marks-node
bounds-marks-node c = held_below _ _ _ _ _ _ _ c.requires.hands

pub offset_bounds-marks-node : goal.offset_bounds-marks-node
offset_bounds-marks-node c =
    let b : c.args.node < length c.args.marks.now = held_below _ _ _ _ _ _ _ c.requires.hands in
    search rules
