use Rattle.std.proofs.Common.{◌≡◌, ◌++◌, drop}
use Rattle.std.specs.Prelude.{map}
use Rattle.c_tree.specs.Raw.{At}
use Rattle.c_raw.specs.Blocks.{at_view}
use Rattle.c_raw_file.proofs.loads.factors.Given as goal

abbrev pub invariant-loop-element : goal.invariant-loop-element
invariant-loop-element l = l.list.items ++ map (λ a. At.value a) (map at_view (drop l.element-index l.raw)) ≡ map (λ a. At.value a) (map at_view l.raw)
