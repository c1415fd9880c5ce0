use Rattle.std.proofs.Common.{◌≡◌, ◌++◌, drop}
use Rattle.std.specs.Prelude.{map}
use Rattle.c_tree.specs.FileOf.{param_row}
use Rattle.c_raw.specs.Views.{param_view}
use Rattle.c_raw_file.proofs.tables.params.Given as goal

abbrev pub invariant-loop-element : goal.invariant-loop-element
invariant-loop-element l = l.list.items ++ map param_row (map param_view (drop l.element-index l.raw)) ≡ map param_row (map param_view l.raw)
