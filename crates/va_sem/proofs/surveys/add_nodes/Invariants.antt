use Rattle.std.proofs.Common.{◌≡◌, ◌++◌}
use Rattle.std.specs.Prelude.{map}
use Rattle.std.specs.List.{range_with_len}
use Rattle.va_sem.specs.declared.branch.Unknown.TheVariants.{Node}
use Rattle.va_sem.proofs.surveys.add_nodes.Given as goal

abbrev pub invariant-loop-node : goal.invariant-loop-node
invariant-loop-node l = l.list.items ≡ l.fn.list.items ++ map Node (range_with_len 0 l.node)
