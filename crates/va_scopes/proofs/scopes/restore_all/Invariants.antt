use Rattle.std.proofs.Common.{◌≡◌, ℕ, List, length}
use Rattle.va_scopes.specs.Tables.{by_name}
use Rattle.va_scopes.specs.Seeing.{innermost_first, undone}
use Rattle.va_scopes.proofs.scopes.restore_all.Given as goal

abbrev pub invariant-undo : goal.invariant-undo
invariant-undo l =
    (n : List ℕ) → undone (by_name l.table) (innermost_first l.hidden.items) n
    ≡ undone (by_name l.fn.table) (innermost_first l.fn.frame.hidden.items) n

abbrev pub decreases-undo : goal.decreases-undo
decreases-undo l = length l.hidden.items
