use Rattle.std.proofs.Common.{◌≡◌, ◌++◌, drop}
use Rattle.std.specs.Prelude.{map}
use Rattle.c_tree.specs.FileOf.{node_row}
use Rattle.c_raw.specs.Views.{node_view}
use Rattle.c_raw_file.proofs.tables.nodes.Given as goal

abbrev pub invariant-loop-element : goal.invariant-loop-element
invariant-loop-element l = l.list.items ++ map node_row (map node_view (drop l.element-index l.raw)) ≡ map node_row (map node_view l.raw)
