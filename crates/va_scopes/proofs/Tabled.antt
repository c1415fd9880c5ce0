-- What a table has under names after a change.
use Rattle.std.proofs.Common.{◌≡◌, ℕ, List, refl, sym, ap, ◌∙◌, Bool, true, false}
use Rattle.std.specs.Prelude.{Option, if◌then◌else◌}
use Rattle.std.specs.Str.{bytes_eq}
use Rattle.std.specs.Map.{KeepsOthers}
use denote.Bor.{Bor}
use Rattle.indexmap.specs.IndexMap.{IndexMap, get_by, UpdatesBy}
use Rattle.va_scopes.specs.Tables.{by_name}
use Rattle.va_scopes.proofs.Bytes.{same_names, bytes_sym}

module _ {X S : Type 0} (old new : IndexMap (Bor (List ℕ)) X S) (name : List ℕ) (w : Option X)
    (updates : UpdatesBy (λ a b. bytes_eq a.now b.now) (λ key. bytes_eq name key.now) old new w) where
  by_test : (other : List ℕ) (b : Bool) → bytes_eq name other ≡ b → by_name new other ≡ (if b then w else by_name old other)
  unfolding KeepsOthers
  by_test other true e =
      ap (λ n. get_by (λ key. bytes_eq n key.now) new) (sym (same_names name other e)) ∙ updates.1
  by_test other false e =
      updates.3 (λ key. bytes_eq other key.now)
      (λ x y h. ap (λ n. bytes_eq n y.now) (same_names other x.now h))
      (λ k h. ap (bytes_eq other) (sym (same_names name k.now h)) ∙ bytes_sym other name ∙ e)

  pub table_updates : (other : List ℕ) → by_name new other ≡ (if bytes_eq name other then w else by_name old other)
  table_updates other = by_test other (bytes_eq name other) refl
