use Rattle.std.proofs.Common.{◌≡◌, ◌++◌, drop}
use Rattle.std.specs.Prelude.{map}
use Rattle.c_tree.specs.FileOf.{entry_row}
use Rattle.c_raw.specs.Views.{entry_view}
use Rattle.c_raw_file.proofs.tables.entries.Given as goal

abbrev pub invariant-loop-element : goal.invariant-loop-element
invariant-loop-element l = l.list.items ++ map entry_row (map entry_view (drop l.element-index l.raw)) ≡ map entry_row (map entry_view l.raw)
