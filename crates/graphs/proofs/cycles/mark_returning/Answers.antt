use Rattle.std.proofs.Common.{◌≡◌, ◌<◌, length, arith, get_or, refl, true, false}
use Rattle.graphs.specs.declared.edge.Edge.{Edge}
use Rattle.graphs.proofs.Returning.{marks_start, marks_here, marks_past, marks_end}
use Rattle.graphs.proofs.cycles.mark_returning.Goals as goal
use Rattle.graphs.proofs.cycles.mark_returning.Goals.{then-is_within, else-is_within}

pub loop-edge-init : goal.loop-edge-init
loop-edge-init c = marks_start _ _ _ _ c.requires.returning

pub loop-edge-preserved : goal.loop-edge-preserved
loop-edge-preserved c =
    let d : Edge = record { from = 0; to = 0 } in
    elim c.if-is_within.branch [
      | then-is_within w ↦ (let n : length c.args.component.now ≡ length c.args.returning.now = c.requires.component.len in
          let h : ((get_or c.args.edges.now c.loop-edge.edge-index d).from < length c.args.component.now) × ((get_or c.args.edges.now c.loop-edge.edge-index d).to < length c.args.component.now)
          × (get_or c.args.component.now (get_or c.args.edges.now c.loop-edge.edge-index d).from 0 ≡ get_or c.args.component.now (get_or c.args.edges.now c.loop-edge.edge-index d).to 0) = w.if-is_within.ensures.0 refl in
          marks_here _ _ _ c.requires.component _ d c.loop-edge-test.true _ _ c.loop-edge.invariant (omega (arith, h.0)) (omega (arith, h.1)) h.2 w.returning-is)
      | else-is_within w ↦ (let n : length c.args.component.now ≡ length c.args.returning.now = c.requires.component.len in
          marks_past _ _ _ c.requires.component _ d c.loop-edge-test.true _ _ c.loop-edge.invariant
          (λ a b p. (let f : false ≡ true = w.if-is_within.ensures.1 (omega (arith, a), omega (arith, b), p) in cc)) w.returning-is)
    ]

pub returns : goal.returns
returns c = marks_end _ _ _ _ _ c.requires.component c.loop-edge-test.false c.loop-edge.invariant
