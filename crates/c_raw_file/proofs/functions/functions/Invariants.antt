use Rattle.std.proofs.Common.{◌≡◌, ◌++◌, drop}
use Rattle.std.specs.Prelude.{map}
use Rattle.c_tree.specs.FileOf.{function_of}
use Rattle.c_raw.specs.Views.{function_view}
use Rattle.c_raw_file.proofs.functions.functions.Given as goal

abbrev pub invariant-loop-element : goal.invariant-loop-element
invariant-loop-element l = l.list.items ++ map function_of (map function_view (drop l.element-index l.raw)) ≡ map function_of (map function_view l.raw)
