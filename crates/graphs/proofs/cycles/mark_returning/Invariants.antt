use Rattle.std.proofs.Common.{length, take}
use Rattle.graphs.specs.Components.{Marks}
use Rattle.graphs.proofs.cycles.mark_returning.Given as goal

abbrev pub invariant-loop-edge : goal.invariant-loop-edge
invariant-loop-edge l = Marks (length l.fn.returning) l.edges (take l.edge-index l.edges) l.component l.returning
