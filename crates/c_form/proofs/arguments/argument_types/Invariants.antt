use Rattle.std.proofs.Common.{◌≡◌, ◌≤◌, ℕ, drop, length}
use Rattle.std.specs.Prelude.{nat_eq, map}
use Rattle.indexmap.specs.IndexMap.{get}
use Rattle.c_tree.specs.rules.Types.{type_of_argument}
use Rattle.c_raw.specs.Views.{argument_view}
use Rattle.c_form.proofs.arguments.argument_types.Given as goal

abbrev pub invariant-loop-place : goal.invariant-loop-place
invariant-loop-place l =
    ((i : ℕ) → get nat_eq l.types i ≡ type_of_argument i (map argument_view (drop l.place l.list))) × (l.place ≤ length l.list)

abbrev pub decreases-loop-place : goal.decreases-loop-place
decreases-loop-place l = l.place
