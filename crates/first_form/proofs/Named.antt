-- Names that are looked up by their bytes.
use Rattle.std.proofs.Common.{◌≡◌, ◌+◌, ℕ, List, [], ◌∷◌, length, map, refl, ap, sym, ◌∙◌, Bor}
use Rattle.std.specs.Prelude.{Bool, true, false, not, ◌||◌, Contains, None, Some, cond, nat_lt, position}
use Rattle.std.specs.List.{list_any, position_or_len}
use Rattle.std.specs.Str.{bytes_eq}
use Rattle.std.specs.Cmp.Lexicographic.{nat_list_eq_equiv}
use Rattle.std.proofs.lemmas.Bool.{false≢true}
use Rattle.std.proofs.lemmas.Slice.Eq.{bytes_eq-Decides}
use Rattle.std.proofs.lemmas.Map.Views.{Contains-from_any, list_any-from_Contains}
use Rattle.first_form.specs.Residuals.{number_in}

list_any-now : (keys : List (Bor (List ℕ))) (name : List ℕ)
    → list_any (λ k. bytes_eq name k.now) keys ≡ list_any (bytes_eq name) (map (λ k. k.now) keys)
list_any-now [] name = refl
list_any-now (k ∷ keys) name = ap (λ b. bytes_eq name k.now || b) (list_any-now keys name)

-- The names are those of the keys.
module _ (keys : List (Bor (List ℕ))) (names : List (List ℕ)) (same : map (λ k. k.now) keys ≡ names) (name : List ℕ) where
  any-name : list_any (λ k. bytes_eq name k.now) keys ≡ list_any (bytes_eq name) names
  any-name = list_any-now keys name ∙ ap (list_any (bytes_eq name)) same

  pub known : list_any (λ k. bytes_eq name k.now) keys ≡ true → Contains names name
  known e = Contains-from_any {eq = bytes_eq} (λ x y. (bytes_eq-Decides x y).0) name names (sym any-name ∙ e)

  pub unknown : list_any (λ k. bytes_eq name k.now) keys ≡ false → Contains names name → ⊥
  unknown e h = false≢true (sym e ∙ any-name ∙ list_any-from_Contains {eq = bytes_eq} nat_list_eq_equiv name names h)

position-now : (keys : List (Bor (List ℕ))) (name : List ℕ)
    → position_or_len (λ k. bytes_eq name k.now) keys ≡ number_in (map (λ k. k.now) keys) name
position-now [] name = refl
position-now (k ∷ keys) name = ap (λ n. cond (not (bytes_eq name k.now)) (1 + n) 0) (position-now keys name)

some-cond : (b : Bool) (i n : ℕ) → Some i ≡ cond b (Some n) None → i ≡ n
some-cond true i n e = cc
some-cond false i n e = cc

-- what an index is that a look-up gives
pub number-at : (keys : List (Bor (List ℕ))) (names : List (List ℕ)) → map (λ k. k.now) keys ≡ names → (name : List ℕ)
    (i : ℕ) → Some i ≡ position (λ k. bytes_eq name k.now) keys → i ≡ number_in names name
number-at keys names same name i e =
    some-cond (nat_lt (position_or_len (λ k. bytes_eq name k.now) keys) (length keys)) i (position_or_len (λ k. bytes_eq name k.now) keys) e
    ∙ position-now keys name ∙ ap (λ ns. number_in ns name) same
