use Rattle.std.proofs.Common.{rules, ◌<◌, length, arith, ◌∙◌, refl}
use Rattle.graphs.proofs.Walking.{enter_seen, mark_same}
use Rattle.graphs.proofs.Gathering.{gather_start, fresh_work, gather_spreads, gather_below, gather_step}
use Rattle.graphs.proofs.cycles.gather.Goals as goal

pub loop-node-init : goal.loop-node-init
loop-node-init c = record {
  gathers = gather_start _ _ _ c.requires.turned _ _ _ _ _ _ c.requires.components c.requires.node (search rules) c.in_ok-mark.ensures.marked
      (fresh_work _ _ _ _ (search rules) c.requires.work c.in_ok-mark.ensures.work);
  kept = λ z h. mark_same _ _ _ z c.in_ok-mark.ensures.marked h;
  here = enter_seen _ _ _ c.requires.node c.in_ok-mark.ensures.marked;
}

pub bounds-component-node : goal.bounds-component-node
bounds-component-node c =
    let b : c.in-Some.node < length c.args.marked.now = gather_below _ _ _ _ _ _ _ _ _ _ c.loop-node.invariant.gathers c.in-Some.ensures.items in
    omega (arith, c.loop-node.invariant.gathers.component_len)

pub offset_bounds-component-node : goal.offset_bounds-component-node
offset_bounds-component-node c =
    let b : c.in-Some.node < length c.args.marked.now = gather_below _ _ _ _ _ _ _ _ _ _ c.loop-node.invariant.gathers c.in-Some.ensures.items in
    let d : c.in-Some.node < length c.loop-node.component = omega (arith, c.loop-node.invariant.gathers.component_len) in
    search rules

pub row-requires-clause-node : goal.row-requires-clause-node
row-requires-clause-node c =
    let b : c.in-Some.node < length c.args.marked.now = gather_below _ _ _ _ _ _ _ _ _ _ c.loop-node.invariant.gathers c.in-Some.ensures.items in
    omega (arith, c.requires.rows.starts_len)

pub visit-requires-clause-spreads : goal.visit-requires-clause-spreads
visit-requires-clause-spreads c =
    gather_spreads _ _ _ _ _ _ _ _ _ _ _ _ c.loop-node.invariant.gathers c.in-Some.ensures.items
    (c.deref.ensures.value ∙ c.in_ok-push.ensures.items) c.loop-node.invariant.gathers.spreads.len

pub loop-node-preserved : goal.loop-node-preserved
loop-node-preserved c = record {
  gathers = gather_step _ _ _ _ c.requires.turned _ _ c.requires.claim c.requires.node _ _ _ _ _ _ _ _ _ c.loop-node.invariant.gathers c.in-Some.ensures.items refl
      c.loop-node.invariant.gathers.spreads.len (c.deref.ensures.value ∙ c.in_ok-push.ensures.items) c.in_ok-visit.ensures.spreads c.in_ok-visit.ensures.grows;
  kept = λ z h. c.in_ok-visit.ensures.grows.kept z (c.loop-node.invariant.kept z h);
  here = c.in_ok-visit.ensures.grows.kept _ c.loop-node.invariant.here;
}
