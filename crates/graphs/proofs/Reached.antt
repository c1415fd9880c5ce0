-- What seeds reach: with a node each to which an edge leads, and no more.
use Rattle.std.proofs.Common.{◌≡◌, ℕ, zero, suc, ◌<◌, ◌==◌, ◌&&◌, ◌||◌, Bool, true, false, List, [], ◌∷◌, length, get_or, refl, sym, ◌∙◌, ap, inl, inr, arith}
use Rattle.std.specs.Bool.{nat_lt}
use Rattle.std.proofs.lemmas.Bool.{or_cases, and_parts, and_from, or_left, or_right, eqb-true, eq-eqb, ltb-true, lt-ltb}
use Rattle.alg_laws.specs.Least.{table, listed, after_steps, least, Within, IsMonotone}
use Rattle.alg_laws.proofs.Least.{least_closed, least_within}
use Rattle.graphs.specs.declared.edge.Edge.{Edge}
use Rattle.graphs.specs.Edges.{is_edge, leads, is_in, follows, reached, BridgeLaw, BothWaysLaw}

listed_below : (n : ℕ) (f : ℕ → Bool) (x : ℕ) → listed (table n f) x ≡ true → x < n
listed_below zero f x h = (let e : false ≡ true = h in cc)
listed_below (suc n) f zero h = omega arith
listed_below (suc n) f (suc x) h = omega (arith, listed_below n (λ y. f (suc y)) x h)

pub after_below : (n : ℕ) (step : (ℕ → Bool) → ℕ → Bool) (k x : ℕ) → listed (after_steps n step k) x ≡ true → x < n
after_below n step zero x h = (let e : false ≡ true = h in cc)
after_below n step (suc k) x h = listed_below n (step (listed (after_steps n step k))) x h

pub table_same : (n : ℕ) (f g : ℕ → Bool) → ((x : ℕ) → x < n → f x ≡ g x) → table n f ≡ table n g
table_same zero f g h = refl
table_same (suc n) f g h =
    let a : f 0 ≡ g 0 = h 0 (omega arith) in
    let b : table n (λ x. f (suc x)) ≡ table n (λ x. g (suc x)) = table_same n (λ x. f (suc x)) (λ x. g (suc x)) (λ x l. h (suc x) (omega (arith, l))) in
    cc

pub table-length : (n : ℕ) (f : ℕ → Bool) → length (table n f) ≡ n
table-length zero f = refl
table-length (suc n) f = (let h : length (table n (λ x. f (suc x))) ≡ n = table-length n (λ x. f (suc x)) in omega arith)

pub table_at : (n : ℕ) (f : ℕ → Bool) (x : ℕ) → x < n → get_or (table n f) x false ≡ f x
table_at zero f x h = absurd (omega (arith, h))
table_at (suc n) f zero h = refl
table_at (suc n) f (suc x) h = table_at n (λ y. f (suc y)) x (omega (arith, h))

-- two rules that agree on the sets below n
module _ (n : ℕ) (step other : (ℕ → Bool) → ℕ → Bool)
    (agree : (set : ℕ → Bool) → ((z : ℕ) → set z ≡ true → z < n) → (x : ℕ) → x < n → step set x ≡ other set x) where
  after_same : (k : ℕ) → after_steps n step k ≡ after_steps n other k
  after_same zero = refl
  after_same (suc k) =
      table_same n (step (listed (after_steps n step k))) (other (listed (after_steps n step k))) (agree (listed (after_steps n step k)) (after_below n step k))
      ∙ ap (λ l. table n (other (listed l))) (after_same k)

  pub least_same : (x : ℕ) → least n step x ≡ least n other x
  least_same x = ap (λ l. listed l x) (after_same n)

pub bridge : BridgeLaw
bridge n step edges seeds h x = least_same n step (follows edges seeds) h x

-- an edge, and what leads on
pub leads_from : (edges : List Edge) (set : ℕ → Bool) (x y : ℕ) → set x ≡ true → is_edge edges x y ≡ true → leads edges set y ≡ true
leads_from [] set x y s h = h
leads_from (e ∷ edges) set x y s h =
    elim (or_cases ((e.from == x) && (e.to == y)) (is_edge edges x y) h) [
      | inl a ↦ (let p : (e.from == x) ≡ true × (e.to == y) ≡ true = and_parts (e.from == x) (e.to == y) a in
          or_left (set e.from && (e.to == y)) (leads edges set y) (and_from (set e.from) (e.to == y) (ap set (eqb-true e.from x p.0) ∙ s) p.1))
      | inr b ↦ or_right (set e.from && (e.to == y)) (leads edges set y) (leads_from edges set x y s b)
    ]

pub leads_gives : (edges : List Edge) (set : ℕ → Bool) (y : ℕ) → leads edges set y ≡ true → (x : ℕ) × (set x ≡ true) × (is_edge edges x y ≡ true)
leads_gives [] set y h = (let e : false ≡ true = h in cc)
leads_gives (e ∷ edges) set y h =
    elim (or_cases (set e.from && (e.to == y)) (leads edges set y) h) [
      | inl a ↦ (let p : (set e.from ≡ true) × ((e.to == y) ≡ true) = and_parts (set e.from) (e.to == y) a in
          (e.from, p.0, or_left ((e.from == e.from) && (e.to == y)) (is_edge edges e.from y) (and_from (e.from == e.from) (e.to == y) (eq-eqb e.from e.from refl) p.1)))
      | inr b ↦ (let w : (x : ℕ) × (set x ≡ true) × (is_edge edges x y ≡ true) = leads_gives edges set y b in
          (w.0, w.1, or_right ((e.from == w.0) && (e.to == y)) (is_edge edges w.0 y) w.2))
    ]

module _ (n : ℕ) (edges : List Edge) (seeds : List ℕ) where
  -- the rule on what is below n
  abbrev inside : (ℕ → Bool) → ℕ → Bool
  inside set z = set z && nat_lt z n

  abbrev follows_in : (ℕ → Bool) → ℕ → Bool
  follows_in set x = is_in seeds x || leads edges (inside set) x

  inside_more : (a b : ℕ → Bool) → Within n a b → (y : ℕ) → leads edges (inside a) y ≡ true → leads edges (inside b) y ≡ true
  inside_more a b w y h =
      let f : (x : ℕ) × (inside a x ≡ true) × (is_edge edges x y ≡ true) = leads_gives edges (inside a) y h in
      let p : (a f.0 ≡ true) × (nat_lt f.0 n ≡ true) = and_parts (a f.0) (nat_lt f.0 n) f.1 in
      leads_from edges (inside b) f.0 y (and_from (b f.0) (nat_lt f.0 n) (w f.0 (ltb-true f.0 n p.1) p.0) p.1) f.2

  monotone : IsMonotone n follows_in
  monotone a b w x l h =
      elim (or_cases (is_in seeds x) (leads edges (inside a) x) h) [
        | inl s ↦ or_left (is_in seeds x) (leads edges (inside b) x) s
        | inr t ↦ or_right (is_in seeds x) (leads edges (inside b) x) (inside_more a b w x t)
      ]

  either_way : (a b : Bool) → (a ≡ true → b ≡ true) → (b ≡ true → a ≡ true) → a ≡ b
  either_way true b h k = sym (h refl)
  either_way false true h k = k refl
  either_way false false h k = refl

  leads_inside : (set : ℕ → Bool) → ((z : ℕ) → set z ≡ true → z < n) → (x : ℕ) → leads edges set x ≡ leads edges (inside set) x
  leads_inside set below x = either_way (leads edges set x) (leads edges (inside set) x)
      (λ h. (let f : (z : ℕ) × (set z ≡ true) × (is_edge edges z x ≡ true) = leads_gives edges set x h in
      leads_from edges (inside set) f.0 x (and_from (set f.0) (nat_lt f.0 n) f.1 (lt-ltb f.0 n (below f.0 f.1))) f.2))
      (λ h. (let f : (z : ℕ) × (inside set z ≡ true) × (is_edge edges z x ≡ true) = leads_gives edges (inside set) x h in
      leads_from edges set f.0 x (and_parts (set f.0) (nat_lt f.0 n) f.1).0 f.2))

  as_inside : (x : ℕ) → reached n edges seeds x ≡ least n follows_in x
  as_inside x = least_same n (follows edges seeds) follows_in (λ set below y l. ap (λ b. is_in seeds y || b) (leads_inside set below y)) x

  pub reached_below : (x : ℕ) → reached n edges seeds x ≡ true → x < n
  reached_below x h = after_below n (follows edges seeds) n x h

  pub seed_reached : (x : ℕ) → x < n → is_in seeds x ≡ true → reached n edges seeds x ≡ true
  seed_reached x l s = as_inside x ∙ least_closed n follows_in monotone x l (or_left (is_in seeds x) (leads edges (inside (least n follows_in)) x) s)

  pub edge_reached : (x y : ℕ) → reached n edges seeds x ≡ true → is_edge edges x y ≡ true → y < n → reached n edges seeds y ≡ true
  edge_reached x y r e l =
      as_inside y ∙ least_closed n follows_in monotone y l (or_right (is_in seeds y) (leads edges (inside (least n follows_in)) y)
      (leads_from edges (inside (least n follows_in)) x y (and_from (least n follows_in x) (nat_lt x n) (sym (as_inside x) ∙ r) (lt-ltb x n (reached_below x r))) e))

  -- what has the seeds and is closed under edges has all that is reached
  pub reached_within : (set : ℕ → Bool) → ((x : ℕ) → x < n → is_in seeds x ≡ true → set x ≡ true)
      → ((x y : ℕ) → x < n → y < n → set x ≡ true → is_edge edges x y ≡ true → set y ≡ true)
      → (x : ℕ) → reached n edges seeds x ≡ true → set x ≡ true
  reached_within set first onward x r =
      least_within n follows_in monotone set
      (λ y l h. elim (or_cases (is_in seeds y) (leads edges (inside set) y) h) [
        | inl s ↦ first y l s
        | inr t ↦ (let f : (z : ℕ) × (inside set z ≡ true) × (is_edge edges z y ≡ true) = leads_gives edges (inside set) y t in
            let p : (set f.0 ≡ true) × (nat_lt f.0 n ≡ true) = and_parts (set f.0) (nat_lt f.0 n) f.1 in
            onward f.0 y (ltb-true f.0 n p.1) l p.0 f.2)
      ])
      x (reached_below x r) (sym (as_inside x) ∙ r)

answers_same : (a b : Bool) → (a ≡ true → b ≡ true) → (b ≡ true → a ≡ true) → a ≡ b
answers_same true b h k = sym (h refl)
answers_same false true h k = k refl
answers_same false false h k = refl

pub bridge_both_ways : BothWaysLaw
bridge_both_ways n step edges seeds h k x =
    bridge n step edges seeds (λ set below z b. answers_same (step set z) (follows edges seeds set z) (h set below z b) (k set below z b)) x
