use Rattle.std.proofs.Common.{rules, ◌≡◌, ◌<◌, ◌++◌, ◌∷◌, [], arith}
use Rattle.graphs.proofs.Spreading.{no_items}
use Rattle.graphs.proofs.Marking.{hands_end, popped_below, hands_pop_at}
use Rattle.graphs.proofs.marks.reach64.Goals as goal

pub returns-clause-marks : goal.returns-clause-marks
returns-clause-marks c = λ j x l b. hands_end _ _ _ _ _ c.loop-node.invariant (no_items _ (search rules)) j x l b

pub row-requires-clause-node : goal.row-requires-clause-node
row-requires-clause-node c =
    let q : c.loop-node.work.items ≡ c.pop.new.self.items ++ c.in-Some.node ∷ [] = c.in-Some.ensures.items in
    let b : c.in-Some.node < c.args.n = popped_below _ _ _ _ _ _ _ _ c.loop-node.invariant q in
    omega (arith, c.in_ok-rows.ensures.starts_len)

pub give-requires-clause-hands : goal.give-requires-clause-hands
give-requires-clause-hands c = hands_pop_at _ _ _ _ _ _ _ _ _ c.loop-node.invariant c.in-Some.ensures.items c.deref_mut-in-Some.ensures.value
