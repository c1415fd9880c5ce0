use Rattle.std.proofs.Common.{◌≡◌, ◌++◌, drop}
use Rattle.std.specs.Prelude.{map}
use Rattle.c_raw.specs.Views.{argument_view}
use Rattle.c_raw_file.specs.Parts.{argument_of}
use Rattle.c_raw_file.proofs.functions.arguments.Given as goal

abbrev pub invariant-loop-element : goal.invariant-loop-element
invariant-loop-element l = l.list.items ++ map argument_of (map argument_view (drop l.element-index l.raw)) ≡ map argument_of (map argument_view l.raw)
