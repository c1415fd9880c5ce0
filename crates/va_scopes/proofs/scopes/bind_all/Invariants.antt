use Rattle.std.proofs.Common.{◌≡◌, List, length}
use Rattle.std.specs.Prelude.{map}
use Rattle.va_sem.specs.Scopes.{Declared}
use Rattle.va_scopes.specs.Bindings.{declared_by}
use Rattle.va_scopes.specs.Declaring.{all_in_front}
use Rattle.va_scopes.specs.Seeing.{IsScope}
use Rattle.va_scopes.proofs.scopes.bind_all.Given as goal

-- whatever declares what is left declares all
abbrev pub invariant-declare : goal.invariant-declare
invariant-declare l =
    (known : List Declared) (outer : List (List Declared)) → IsScope l.fn.scopes known outer
    → (seen : List Declared) × IsScope l.scopes seen outer
    × (all_in_front (map declared_by l.left.items) seen ≡ all_in_front (map declared_by l.fn.bindings.items) known)

abbrev pub decreases-declare : goal.decreases-declare
decreases-declare l = length l.left.items
