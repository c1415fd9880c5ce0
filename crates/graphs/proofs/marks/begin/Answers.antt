use Rattle.std.proofs.Common.{◌∙◌, ap}
use Rattle.graphs.specs.declared.edge.Seed.{Seed}
use Rattle.graphs.proofs.Marking.{begin_here, begin_past, begin_end, hands_start}
use Rattle.graphs.proofs.marks.begin.Goals as goal
use Rattle.graphs.proofs.marks.begin.Goals.{then-seed-n+in_ok-add, else-seed-n}

pub loop-seed-init : goal.loop-seed-init
loop-seed-init c = hands_start _ _ _ _ _ c.requires.marks c.requires.work

pub loop-seed-preserved : goal.loop-seed-preserved
loop-seed-preserved c =
    let d : Seed = record { node = 0; marks = 0 } in
    elim c.if-seed-n.branch [
      | then-seed-n+in_ok-add w ↦ begin_here _ _ _ _ d _ _ _ _ c.loop-seed-test.true c.loop-seed.invariant w.if-seed-n.true
          (w.marks-is ∙ w.in_ok-add.ensures.marks) (ap (λ v. v.items) w.work-is ∙ w.in_ok-add.ensures.work)
      | else-seed-n w ↦ begin_past _ _ _ _ d _ _ _ _ c.loop-seed-test.true c.loop-seed.invariant w.if-seed-n.false w.marks-is (ap (λ v. v.items) w.work-is)
    ]

pub returns : goal.returns
returns c = begin_end _ _ _ _ _ _ c.loop-seed-test.false c.loop-seed.invariant
