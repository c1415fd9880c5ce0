-- Edges turned round, and the claim that makes components of a walk in depth.
use Rattle.std.proofs.Common.{◌≡◌, ℕ, zero, suc, ◌<◌, ◌≤◌, ◌==◌, ◌⊎◌, ◌||◌, ◌&&◌, Bool, true, false, List, [], ◌∷◌, ◌++◌, map, length, get_or, refl, sym, ◌∙◌, ap, subst, inl, inr, arith}
use Rattle.std.proofs.lemmas.Bool.{cases_lt, or_cases, or_left, or_right, eqb-true}
use Rattle.alg_laws.specs.Least.{listed, after_steps}
use Rattle.graphs.specs.declared.edge.Edge.{Edge}
use Rattle.graphs.specs.Edges.{is_edge, leads, is_in, follows, reached, reaches}
use Rattle.graphs.specs.Walk.{IsDepthOrder}
use Rattle.graphs.specs.Components.{turned, AreTurned}
use Rattle.graphs.proofs.Steps.{one_more, more_left}
use Rattle.graphs.proofs.Reached.{seed_reached, edge_reached, reached_within, leads_gives, after_below, table_at}
use Rattle.graphs.proofs.RowLists.{in_gives}
use Rattle.graphs.proofs.Walking.{self_reaches, reaches_on}

-- induction along edges
module _ (n : ℕ) (edges : List Edge) (seeds : List ℕ) (P : ℕ → Type 0)
    (first : (x : ℕ) → x < n → is_in seeds x ≡ true → P x)
    (onward : (x y : ℕ) → x < n → y < n → P x → is_edge edges x y ≡ true → P y) where
  after_induct : (k x : ℕ) → listed (after_steps n (follows edges seeds) k) x ≡ true → P x
  after_induct zero x h = (let f : false ≡ true = h in cc)
  after_induct (suc k) x h =
      let set : ℕ → Bool = listed (after_steps n (follows edges seeds) k) in
      let b : x < n = after_below n (follows edges seeds) (suc k) x h in
      elim (or_cases (is_in seeds x) (leads edges set x) (sym (table_at n (follows edges seeds set) x b) ∙ h)) [
        | inl s ↦ first x b s
        | inr t ↦ (let w : (z : ℕ) × (set z ≡ true) × (is_edge edges z x ≡ true) = leads_gives edges set x t in
            onward w.0 x (after_below n (follows edges seeds) k w.0 w.1) b (after_induct k w.0 w.1) w.2)
      ]

  pub reached_induct : (x : ℕ) → reached n edges seeds x ≡ true → P x
  reached_induct x h = after_induct n x h

one_seed : (a x : ℕ) → is_in (a ∷ []) x ≡ true → a ≡ x
one_seed a x h = elim (or_cases (a == x) false h) [ inl e ↦ eqb-true a x e | inr f ↦ (let g : false ≡ true = f in cc) ]

-- what is reached from what is reached is reached
pub reached_from : (n : ℕ) (edges : List Edge) (seeds : List ℕ) (y x : ℕ) → reached n edges seeds y ≡ true → reaches n edges y x ≡ true → reached n edges seeds x ≡ true
reached_from n edges seeds y x r h =
    reached_within n edges (y ∷ []) (reached n edges seeds)
    (λ z b s. (let P : ℕ → Type 0 = λ w. reached n edges seeds w ≡ true in subst P (one_seed y z s) r))
    (λ z w bz bw k e. edge_reached n edges seeds z w k e bw) x h

pub more_seeds : (n : ℕ) (edges : List Edge) (seeds : List ℕ) (r x : ℕ) → reached n edges seeds x ≡ true → reached n edges (seeds ++ r ∷ []) x ≡ true
more_seeds n edges seeds r x h =
    reached_within n edges seeds (reached n edges (seeds ++ r ∷ []))
    (λ z b s. seed_reached n edges (seeds ++ r ∷ []) z b (more_left (λ w. w == z) seeds r s))
    (λ z w bz bw k e. edge_reached n edges (seeds ++ r ∷ []) z w k e bw) x h

pub split_seeds : (n : ℕ) (edges : List Edge) (seeds : List ℕ) (r x : ℕ) → reached n edges (seeds ++ r ∷ []) x ≡ true
    → (reached n edges seeds x ≡ true) ⊎ (reaches n edges r x ≡ true)
split_seeds n edges seeds r x h =
    or_cases (reached n edges seeds x) (reaches n edges r x)
    (reached_within n edges (seeds ++ r ∷ []) (λ z. reached n edges seeds z || reaches n edges r z)
    (λ z b s. elim (one_more (λ w. w == z) seeds r s) [
      | inl a ↦ or_left (reached n edges seeds z) (reaches n edges r z) (seed_reached n edges seeds z b a)
      | inr q ↦ or_right (reached n edges seeds z) (reaches n edges r z) (seed_reached n edges (r ∷ []) z b (or_left (r == z) false q))
    ])
    (λ z w bz bw k e. elim (or_cases (reached n edges seeds z) (reaches n edges r z) k) [
      | inl a ↦ or_left (reached n edges seeds w) (reaches n edges r w) (edge_reached n edges seeds z w a e bw)
      | inr q ↦ or_right (reached n edges seeds w) (reaches n edges r w) (reaches_on n edges r z w q e bw)
    ]) x h)

and_turned : (a b : Bool) → (a && b) ≡ (b && a)
and_turned true true = refl
and_turned true false = refl
and_turned false true = refl
and_turned false false = refl

turned_edge : (edges : List Edge) (x y : ℕ) → is_edge edges x y ≡ is_edge (map turned edges) y x
turned_edge [] x y = refl
turned_edge (e ∷ edges) x y =
    let a : ((e.from == x) && (e.to == y)) ≡ ((e.to == y) && (e.from == x)) = and_turned (e.from == x) (e.to == y) in
    let b : is_edge edges x y ≡ is_edge (map turned edges) y x = turned_edge edges x y in
    ap (λ v. v || is_edge edges x y) a ∙ ap (λ v. ((e.to == y) && (e.from == x)) || v) b

pub are_turned : (edges back : List Edge) → back ≡ map turned edges → AreTurned edges back
are_turned edges back q = record { there = λ x y. turned_edge edges x y ∙ ap (λ es. is_edge es y x) (sym q) }

pub turn_back : (edges back : List Edge) → AreTurned edges back → AreTurned back edges
turn_back edges back t = record { there = λ x y. sym (t.there y x) }

-- along turned edges the other way
pub turned_reaches : (n : ℕ) (edges back : List Edge) → AreTurned edges back → (a b : ℕ) → a < n → reaches n edges a b ≡ true → reaches n back b a ≡ true
turned_reaches n edges back t a b ba h =
    reached_within n edges (a ∷ []) (λ z. reaches n back z a)
    (λ z bz s. (let P : ℕ → Type 0 = λ w. reaches n back w a ≡ true in subst P (one_seed a z s) (self_reaches n back a ba)))
    (λ z w bz bw k e. reached_from n back (w ∷ []) z a (reaches_on n back w w z (self_reaches n back w bw) (sym (t.there z w) ∙ e) bz) k) b h

-- what is not below n reaches nothing
pub from_below : (n : ℕ) (edges : List Edge) (x y : ℕ) → reaches n edges x y ≡ true → x < n
from_below n edges x y h = elim (cases_lt x n) [
  | inl l ↦ l
  | inr g ↦ (let f : false ≡ true = reached_within n edges (x ∷ []) (λ z. false)
      (λ z b s. absurd (omega (arith, one_seed x z s)))
      (λ z w bz bw k e. k) y h in cc)
]

-- Where all that stands behind a place of the order reaches the roots, what else reaches the node there is reached from it.
module _ (n : ℕ) (edges back : List Edge) (t : AreTurned edges back) (order : List ℕ) (is : IsDepthOrder n edges order) (roots : List ℕ) (p : ℕ) (bp : p < n)
    (behind : (k : ℕ) → p < k → k < n → reached n back roots (get_or order k 0) ≡ true) (br : get_or order p 0 < n) where
  abbrev r : ℕ
  r = get_or order p 0

  abbrev Between : ℕ → Type 0
  Between x = (i : ℕ) × (i ≤ p) × (get_or order i 0 ≡ x) × ((m : ℕ) → i ≤ m → m ≤ p → reaches n edges r (get_or order m 0) ≡ true)

  abbrev Claim : ℕ → Type 0
  Claim x = (reached n back roots x ≡ true) ⊎ Between x

  claim_first : (x : ℕ) → x < n → is_in (r ∷ []) x ≡ true → Claim x
  claim_first x b s = inr (
    p,
    omega arith,
    one_seed r x s,
    λ m l g. (let e : m ≡ p = omega arith in
        let P : ℕ → Type 0 = λ w. reaches n edges r (get_or order w 0) ≡ true in subst P (sym e) (self_reaches n edges r br)),
  )

  claim_between : (x y : ℕ) → y < n → Between x → is_edge back x y ≡ true → Claim y
  claim_between x y by w e =
      let v : (k : ℕ) × (k < length order) × (get_or order k 0 ≡ y) = in_gives order y (is.each y by) in
      elim (cases_lt p v.0) [
        | inl g ↦ inl (let P : ℕ → Type 0 = λ u. reached n back roots u ≡ true in subst P v.2 (behind v.0 g (omega (arith, is.len, v.1))))
        | inr l ↦ inr (
          v.0,
          l,
          v.2,
          λ m lm gm. elim (cases_lt m w.0) [
            | inr later ↦ w.3 m later gm
            | inl sooner ↦ (let top : w.0 < length order = omega (arith, is.len, w.1) in
                let e2 : is_edge edges (get_or order v.0 0) (get_or order w.0 0) ≡ true =
                ap (λ u. is_edge edges u (get_or order w.0 0)) v.2 ∙ ap (λ u. is_edge edges y u) w.2 ∙ t.there y x ∙ e in
                let low : m ≤ w.0 = omega arith in
                reached_from n edges (r ∷ []) (get_or order w.0 0) (get_or order m 0) (w.3 w.0 (omega arith) w.1) (is.back m v.0 w.0 lm low top e2))
          ],
        )
      ]

  pub claim : (x : ℕ) → reached n back roots x ≡ false → reaches n edges x r ≡ true → reaches n edges r x ≡ true
  claim x out h =
      let bx : x < n = from_below n edges x r h in
      elim (reached_induct n back (r ∷ []) Claim claim_first
      (λ z y bz by c e. elim c [
        | inl k ↦ inl (edge_reached n back roots z y k e by)
        | inr w ↦ claim_between z y by w e
      ])
      x (turned_reaches n edges back t x r bx h)) [
        | inl k ↦ (let f : false ≡ true = sym out ∙ k in cc)
        | inr w ↦ (let P : ℕ → Type 0 = λ u. reaches n edges r u ≡ true in subst P w.2 (w.3 w.0 (omega arith) w.1))
      ]
