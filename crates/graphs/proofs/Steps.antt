-- Edges of lists that grow.
use Rattle.std.proofs.Common.{◌≡◌, ℕ, ◌==◌, ◌&&◌, ◌||◌, ◌⊎◌, Bool, true, false, List, [], ◌∷◌, ◌++◌, refl, sym, ◌∙◌, inl, inr}
use Rattle.std.specs.List.{list_any}
use Rattle.std.proofs.lemmas.List.Folds.{list_any-append}
use Rattle.std.proofs.lemmas.Bool.{or_cases, and_parts, and_from, or_left, or_right, eqb-true, eq-eqb}
use Rattle.graphs.specs.declared.edge.Edge.{Edge}
use Rattle.graphs.specs.Edges.{is_edge}

pub one_more : {X : Type 0} (p : X → Bool) (done : List X) (e : X) → list_any p (done ++ e ∷ []) ≡ true → (list_any p done ≡ true) ⊎ (p e ≡ true)
one_more p done e h =
    elim (or_cases (list_any p done) (p e || false) (sym (list_any-append p done (e ∷ [])) ∙ h)) [
      | inl a ↦ inl a
      | inr b ↦ inr (elim (or_cases (p e) false b) [ inl c ↦ c | inr d ↦ (let f : false ≡ true = d in cc) ])
    ]

pub more_left : {X : Type 0} (p : X → Bool) (done : List X) (e : X) → list_any p done ≡ true → list_any p (done ++ e ∷ []) ≡ true
more_left p done e h = list_any-append p done (e ∷ []) ∙ or_left (list_any p done) (p e || false) h

pub more_right : {X : Type 0} (p : X → Bool) (done : List X) (e : X) → p e ≡ true → list_any p (done ++ e ∷ []) ≡ true
more_right p done e h = list_any-append p done (e ∷ []) ∙ or_right (list_any p done) (p e || false) (or_left (p e) false h)

pub edge_one_more : (done : List Edge) (e : Edge) (x y : ℕ) → is_edge (done ++ e ∷ []) x y ≡ true
    → (is_edge done x y ≡ true) ⊎ ((e.from ≡ x) × (e.to ≡ y))
edge_one_more done e x y h =
    elim (one_more (λ (d : Edge). (d.from == x) && (d.to == y)) done e h) [
      | inl a ↦ inl a
      | inr b ↦ (let components : (e.from == x) ≡ true × (e.to == y) ≡ true = and_parts (e.from == x) (e.to == y) b in
          inr (eqb-true e.from x components.0, eqb-true e.to y components.1))
    ]

pub edge_stays : (done : List Edge) (e : Edge) (x y : ℕ) → is_edge done x y ≡ true → is_edge (done ++ e ∷ []) x y ≡ true
edge_stays done e x y h = more_left (λ (d : Edge). (d.from == x) && (d.to == y)) done e h

pub edge_there : (done : List Edge) (e : Edge) → is_edge (done ++ e ∷ []) e.from e.to ≡ true
edge_there done e =
    more_right (λ (d : Edge). (d.from == e.from) && (d.to == e.to)) done e
    (and_from (e.from == e.from) (e.to == e.to) (eq-eqb e.from e.from refl) (eq-eqb e.to e.to refl))
