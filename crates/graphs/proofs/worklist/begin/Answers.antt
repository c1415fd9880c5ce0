use Rattle.std.proofs.Common.{◌∙◌, ap}
use Rattle.graphs.proofs.Spreading.{begin_here, begin_past, begin_end, spread_start}
use Rattle.graphs.proofs.worklist.begin.Goals as goal
use Rattle.graphs.proofs.worklist.begin.Goals.{then-seed-n+in_ok-mark, else-seed-n}

pub loop-seed-init : goal.loop-seed-init
loop-seed-init c = spread_start _ _ _ _ _ c.requires.marked c.requires.work

pub loop-seed-preserved : goal.loop-seed-preserved
loop-seed-preserved c =
    elim c.if-seed-n.branch [
      | then-seed-n+in_ok-mark w ↦ begin_here _ _ _ _ _ _ _ _ c.loop-seed-test.true c.loop-seed.invariant w.if-seed-n.true
          (w.marked-is ∙ w.in_ok-mark.ensures.marked) (ap (λ v. v.items) w.work-is ∙ w.in_ok-mark.ensures.work)
      | else-seed-n w ↦ begin_past _ _ _ _ _ _ _ _ c.loop-seed-test.true c.loop-seed.invariant w.if-seed-n.false w.marked-is (ap (λ v. v.items) w.work-is)
    ]

pub returns : goal.returns
returns c = begin_end _ _ _ _ _ _ c.loop-seed-test.false c.loop-seed.invariant
