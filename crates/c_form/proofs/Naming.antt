-- Types of fields by their names.
use Rattle.std.proofs.Common.{◌≡◌, ◌<◌, ◌≤◌, ◌-◌, ℕ, zero, suc, List, ◌∷◌, length, get_or, drop, drop-cons, refl, sym, ap, ◌∙◌, arith}
use Rattle.std.specs.Global.{Vec}
use Rattle.std.specs.Prelude.{Bool, true, false, Option, Some, if◌then◌else◌, map}
use Rattle.std.specs.Str.{bytes_eq}
use Rattle.std.specs.Map.{KeepsOthers}
use Rattle.std.proofs.lemmas.Bool.Decides.{same_from_decides, Decides-like}
use Rattle.std.proofs.lemmas.Slice.Eq.{bytes_eq-Decides}
use Rattle.indexmap.specs.IndexMap.{IndexMap, get_by, UpdatesBy}
use Rattle.alg_laws.specs.declared.number.Ty.{Ty}
use Rattle.c_tree.specs.declared.body.CField.{CField}
use Rattle.c_tree.specs.Text.{field_word}
use Rattle.c_tree.specs.rules.Fields.{type_among}
use Rattle.c_raw.specs.Views.{field_view}
use Rattle.c_raw.specs.declared.file.RawField.{RawField}
use Rattle.c_form.specs.FieldTypes.{named}

same_names : (a b : List ℕ) → bytes_eq a b ≡ true → a ≡ b
same_names a b e = (bytes_eq-Decides a b).0 e

pub bytes_eq-sym : (a b : List ℕ) → bytes_eq a b ≡ bytes_eq b a
bytes_eq-sym a b =
    same_from_decides (bytes_eq a b) (bytes_eq b a) (bytes_eq-Decides a b)
    (Decides-like (bytes_eq b a) (λ e. sym e) (λ e. sym e) (bytes_eq-Decides b a))

module _ {S : Type 0} (old new : IndexMap (Vec ℕ) Ty S) (name : List ℕ) (w : Option Ty)
    (updates : UpdatesBy (λ a b. bytes_eq a.items b.items) (λ key. bytes_eq name key.items) old new w) where
  by_test : (other : List ℕ) (b : Bool) → bytes_eq other name ≡ b
      → get_by (λ key. bytes_eq other key.items) new ≡ (if b then w else named old other)
  unfolding KeepsOthers
  by_test other true e = ap (λ n. get_by (λ key. bytes_eq n key.items) new) (same_names other name e) ∙ updates.1
  by_test other false e =
      updates.3 (λ key. bytes_eq other key.items) (λ x y h. ap (λ n. bytes_eq n y.items) (same_names other x.items h))
      (λ k h. ap (bytes_eq other) (sym (same_names name k.items h)) ∙ e)

  pub named-updates : (other : List ℕ) → named new other ≡ (if bytes_eq other name then w else named old other)
  named-updates other = by_test other (bytes_eq other name) refl

-- a field that is entered before those behind it
pub field-entered : (list : List RawField) (place : ℕ) (d : RawField) (field : CField) (name : List ℕ) (before : Option Ty) → 0 < place → place ≤ length list
    → name ≡ field_word (get_or list (place - 1) d).field.value
    → before ≡ type_among field (map field_view (drop place list))
    → (if bytes_eq (field_word field) name then Some (get_or list (place - 1) d).ty else before)
    ≡ type_among field (map field_view (drop (place - 1) list))
field-entered list zero d field name before h k n e = let no : ⊥ = omega (arith, h) in absurd no
field-entered list (suc place) d field name before h k n e =
    let lower : suc place - 1 ≡ place = omega arith in
    let f : RawField = get_or list place d in
    let own : name ≡ field_word f.field.value = n ∙ ap (λ i. field_word (get_or list i d).field.value) lower in
    let front : drop place list ≡ f ∷ drop (suc place) list = drop-cons list place d (omega (arith, k)) in
    rw (lower, front, e, own, bytes_eq-sym (field_word field) (field_word f.field.value)) refl
