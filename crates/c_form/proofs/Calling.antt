-- Calls that fit.
use Rattle.std.proofs.Common.{◌≡◌, ℕ, [], ◌∷◌, refl}
use Rattle.std.specs.Prelude.{Option, Some, None, if◌then◌else◌}
use Rattle.c_tree.specs.rules.Types.{Signature, not_fitting}
use Rattle.c_form.specs.Parts.{is_there}

pub not-fitting : (s : Option Signature) (at : ℕ) → (if is_there s then [] else at ∷ []) ≡ not_fitting s at
not-fitting None at = refl
not-fitting (Some s) at = refl
