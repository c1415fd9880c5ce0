use Rattle.std.proofs.Common.{◌≡◌, ◌++◌, drop}
use Rattle.std.specs.Prelude.{map}
use Rattle.c_tree.specs.FileOf.{access_row}
use Rattle.c_raw.specs.Views.{access_view}
use Rattle.c_raw_file.proofs.functions.access.Given as goal

abbrev pub invariant-loop-element : goal.invariant-loop-element
invariant-loop-element l = l.list.items ++ map access_row (map access_view (drop l.element-index l.raw)) ≡ map access_row (map access_view l.raw)
