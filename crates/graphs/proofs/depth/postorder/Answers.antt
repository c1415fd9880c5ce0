use Rattle.graphs.proofs.Walking.{order_behind}
use Rattle.graphs.proofs.Returning.{order_sorted}
use Rattle.graphs.proofs.depth.postorder.Goals as goal

pub returns-clause-behind : goal.returns-clause-behind
returns-clause-behind c = λ j y bj by e. order_behind _ _ _ c.in_ok-order.ensures j y bj by e

pub returns-clause-sorted : goal.returns-clause-sorted
returns-clause-sorted c = λ none j y bj by e. order_sorted _ _ _ c.in_ok-order.ensures none j y bj by e
