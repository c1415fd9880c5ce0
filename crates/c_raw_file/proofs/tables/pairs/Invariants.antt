use Rattle.std.proofs.Common.{◌≡◌, ◌++◌, drop}
use Rattle.std.specs.Prelude.{map}
use Rattle.c_tree.specs.FileOf.{pair_row}
use Rattle.c_raw.specs.Views.{pair_view}
use Rattle.c_raw_file.proofs.tables.pairs.Given as goal

abbrev pub invariant-loop-element : goal.invariant-loop-element
invariant-loop-element l = l.list.items ++ map pair_row (map pair_view (drop l.element-index l.raw)) ≡ map pair_row (map pair_view l.raw)
