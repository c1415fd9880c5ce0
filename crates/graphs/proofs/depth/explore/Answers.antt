use Rattle.std.proofs.Common.{rules, sym}
use Rattle.graphs.proofs.Spreading.{no_items}
use Rattle.graphs.proofs.Walking.{walk_enter, enter_seen, mark_same, walk_popped, rows_of, walks_at, walk_measure}
use Rattle.graphs.proofs.depth.explore.Goals as goal

pub loop-node-init : goal.loop-node-init
loop-node-init c = record {
  walks = walk_enter _ _ _ _ _ _ _ _ _ _ (rows_of _ _ _ _ _ c.requires.rows) c.requires.walks c.requires.node c.requires.empty c.in_ok-mark.ensures.marked c.in_ok-mark.ensures.work;
  kept = λ z h. mark_same _ _ _ z c.in_ok-mark.ensures.marked h;
  here = enter_seen _ _ _ c.requires.node c.in_ok-mark.ensures.marked;
}

pub advance-requires-clause-walks : goal.advance-requires-clause-walks
advance-requires-clause-walks c =
    walks_at _ _ _ _ _ _ _ _ (walk_popped _ _ _ _ _ _ _ _ _ c.loop-node.invariant.walks c.in-Some.ensures.items) (sym c.loop-node.invariant.walks.seen_len)

pub loop-node-preserved : goal.loop-node-preserved
loop-node-preserved c = record {
  walks = walks_at _ _ _ _ _ _ _ _ c.in_ok-advance.ensures.walks c.loop-node.invariant.walks.seen_len;
  kept = λ z h. c.in_ok-advance.ensures.kept z (c.loop-node.invariant.kept z h);
  here = c.in_ok-advance.ensures.kept _ c.loop-node.invariant.here;
}

pub loop-node-smaller : goal.loop-node-smaller
loop-node-smaller c =
    walk_measure _ _ _ _ _ _ _ _ _ _ _ c.loop-node.invariant.walks (walks_at _ _ _ _ _ _ _ _ c.in_ok-advance.ensures.walks c.loop-node.invariant.walks.seen_len) c.in_ok-advance.ensures.count

pub returns-clause-empty : goal.returns-clause-empty
returns-clause-empty c = no_items _ (search rules)
