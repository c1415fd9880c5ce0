use Rattle.std.proofs.Common.{◌≡◌, ℕ, length}
use Rattle.std.specs.Prelude.{nat_eq}
use Rattle.indexmap.specs.IndexMap.{get}
use Rattle.c_form.specs.OpenBlocks.{innermost_first}
use Rattle.c_form.specs.Scopes.{undone}
use Rattle.c_form.proofs.scope.restore_all.Given as goal

abbrev pub invariant-undo : goal.invariant-undo
invariant-undo l =
    (i : ℕ) → undone (get nat_eq l.types) (innermost_first l.hidden.items) i
    ≡ undone (get nat_eq l.fn.types) (innermost_first l.fn.frame.hidden.items) i

abbrev pub decreases-undo : goal.decreases-undo
decreases-undo l = length l.hidden.items
