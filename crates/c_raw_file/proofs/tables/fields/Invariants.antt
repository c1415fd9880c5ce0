use Rattle.std.proofs.Common.{◌≡◌, ◌++◌, drop}
use Rattle.std.specs.Prelude.{map}
use Rattle.c_tree.specs.FileOf.{field_row}
use Rattle.c_raw.specs.Views.{field_view}
use Rattle.c_raw_file.proofs.tables.fields.Given as goal

abbrev pub invariant-loop-element : goal.invariant-loop-element
invariant-loop-element l = l.list.items ++ map field_row (map field_view (drop l.element-index l.raw)) ≡ map field_row (map field_view l.raw)
