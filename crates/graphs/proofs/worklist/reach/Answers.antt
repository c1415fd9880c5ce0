use Rattle.std.proofs.Common.{rules, ◌≡◌, ◌<◌, ◌++◌, ◌∷◌, [], arith}
use Rattle.graphs.proofs.Spreading.{spread_end, no_items, popped_below}
use Rattle.graphs.proofs.worklist.reach.Goals as goal

pub returns : goal.returns
returns c = spread_end _ _ _ _ _ c.loop-node.invariant (no_items _ (search rules))

pub row-requires-clause-node : goal.row-requires-clause-node
row-requires-clause-node c =
    let q : c.loop-node.work.items ≡ c.pop.new.self.items ++ c.in-Some.node ∷ [] = c.in-Some.ensures.items in
    let b : c.in-Some.node < c.args.n = popped_below _ _ _ _ _ _ _ _ c.loop-node.invariant q in
    omega (arith, c.in_ok-rows.ensures.starts_len)
