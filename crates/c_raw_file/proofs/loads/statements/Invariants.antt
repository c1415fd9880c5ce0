use Rattle.std.proofs.Common.{◌≡◌, ◌++◌, drop}
use Rattle.std.specs.Prelude.{map}
use Rattle.c_tree.specs.FileOf.{load_of}
use Rattle.c_raw.specs.Views.{load_view}
use Rattle.c_raw_file.proofs.loads.statements.Given as goal

abbrev pub invariant-loop-element : goal.invariant-loop-element
invariant-loop-element l = l.list.items ++ map load_of (map load_view (drop l.element-index l.raw)) ≡ map load_of (map load_view l.raw)
