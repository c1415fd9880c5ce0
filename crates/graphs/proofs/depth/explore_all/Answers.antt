use Rattle.std.proofs.Common.{arith, sym}
use Rattle.graphs.proofs.Walking.{walk_start, walk_end, walks_at, seen_more}
use Rattle.graphs.proofs.depth.explore_all.Goals as goal

pub loop-root-init : goal.loop-root-init
loop-root-init c = record {
  walks = walk_start _ _ _ _ _ _ _ _ _ c.requires.rows c.requires.seen c.requires.left c.requires.stack c.requires.done;
  empty = c.requires.stack;
  before = λ z l. absurd (omega arith);
}

pub explore-requires-clause-walks : goal.explore-requires-clause-walks
explore-requires-clause-walks c = walks_at _ _ _ _ _ _ _ _ c.loop-root.invariant.walks (sym c.loop-root.invariant.walks.seen_len)

pub loop-root-preserved : goal.loop-root-preserved
loop-root-preserved c = record {
  walks = walks_at _ _ _ _ _ _ _ _ c.in_ok-explore.ensures.walks c.loop-root.invariant.walks.seen_len;
  empty = c.in_ok-explore.ensures.empty;
  before = seen_more _ _ (λ z l. c.in_ok-explore.ensures.kept z (c.loop-root.invariant.before z l)) c.in_ok-explore.ensures.seen;
}

pub returns : goal.returns
returns c = walk_end _ _ _ _ _ _ _ c.loop-root.invariant.walks c.loop-root.invariant.empty (λ z l. c.loop-root.invariant.before z (omega arith))
