-- A row as a list.
use Rattle.std.proofs.Common.{◌≡◌, ℕ, zero, suc, ◌+◌, ◌<◌, ◌≤◌, ◌==◌, ◌&&◌, Bool, true, false, List, [], ◌∷◌, length, get_or, take, drop, refl, sym, ◌∙◌, ap, subst, inl, inr, arith, length-drop, length-take-le, get_or-take, get_or-drop}
use Rattle.std.specs.Bool.{nat_lt}
use Rattle.std.proofs.lemmas.Bool.{or_cases, and_from, and_parts, eqb-true, eq-eqb, ltb-true, lt-ltb}
use Rattle.std.proofs.lemmas.List.Folds.{list_any_at}
use Rattle.graphs.specs.declared.edge.Edge.{Edge}
use Rattle.graphs.specs.Edges.{is_edge, is_in}
use Rattle.graphs.specs.Rows.{AreRows, IsRow}

pub in_gives : (xs : List ℕ) (y : ℕ) → is_in xs y ≡ true → (k : ℕ) × (k < length xs) × (get_or xs k 0 ≡ y)
in_gives [] y h = (let e : false ≡ true = h in cc)
in_gives (x ∷ xs) y h = elim (or_cases (x == y) (is_in xs y) h) [
  | inl a ↦ (0, omega arith, eqb-true x y a)
  | inr b ↦ (let w : (k : ℕ) × (k < length xs) × (get_or xs k 0 ≡ y) = in_gives xs y b in (suc w.0, omega (arith, w.1), w.2))
]

either_way : (a b : Bool) → (a ≡ true → b ≡ true) → (b ≡ true → a ≡ true) → a ≡ b
either_way true b h k = sym (h refl)
either_way false true h k = k refl
either_way false false h k = refl

module _ (n : ℕ) (edges : List Edge) (starts counts targets : List ℕ) (rows : AreRows n edges starts counts targets) (x : ℕ) (b : x < n) where
  abbrev start : ℕ
  start = get_or starts x 0

  abbrev count : ℕ
  count = get_or counts x 0

  abbrev component : List ℕ
  component = take count (drop start targets)

  pub component_len : length component ≡ count
  component_len =
      let w : start + count ≤ length targets = rows.within x b in
      let h : count ≤ length (drop start targets) = omega (arith, length-drop start targets) in
      length-take-le count (drop start targets) h

  part_at : (k : ℕ) → k < count → get_or component k 0 ≡ get_or targets (start + k) 0
  part_at k l = get_or-take count (drop start targets) k 0 l ∙ get_or-drop start targets k 0

  pub row_is : (row : List ℕ) → row ≡ component → IsRow n edges x row
  row_is row q = record {
    targets = λ y. ap (λ r. is_in r y) q ∙ either_way (is_in component y) (is_edge edges x y && nat_lt y n)
        (λ h. (let w : (k : ℕ) × (k < length component) × (get_or component k 0 ≡ y) = in_gives component y h in
        let l : w.0 < count = omega (arith, w.1, component_len) in
        let e : get_or targets (start + w.0) 0 ≡ y = sym (part_at w.0 l) ∙ w.2 in
        let P : ℕ → Type 0 = λ z. (is_edge edges x z && nat_lt z n) ≡ true in
        subst P e (and_from (is_edge edges x (get_or targets (start + w.0) 0)) (nat_lt (get_or targets (start + w.0) 0) n) (rows.sound x w.0 b l)
        (lt-ltb (get_or targets (start + w.0) 0) n (rows.below x w.0 b l)))))
        (λ h. (let p : (is_edge edges x y ≡ true) × (nat_lt y n ≡ true) = and_parts (is_edge edges x y) (nat_lt y n) h in
        let w : (k : ℕ) × (k < count) × (get_or targets (start + k) 0 ≡ y) = rows.complete x y b (ltb-true y n p.1) p.0 in
        list_any_at (λ z. z == y) component w.0 0 (omega (arith, w.1, component_len)) (eq-eqb (get_or component w.0 0) y (part_at w.0 w.1 ∙ w.2))));
  }

pub any_default : {X : Type 0} (xs : List X) (i : ℕ) (d e : X) → i < length xs → get_or xs i d ≡ get_or xs i e
any_default [] i d e b = absurd (omega arith)
any_default (x ∷ xs) zero d e b = refl
any_default (x ∷ xs) (suc i) d e b = any_default xs i d e (omega (arith, b))
