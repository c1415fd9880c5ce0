-- The steps that make components.
use Rattle.std.proofs.Common.{◌≡◌, ℕ, ◌<◌, ◌==◌, ◌≢◌, Bool, true, false, cond, List, [], ◌∷◌, ◌++◌, get_or, refl, sym, ◌∙◌, ap, subst, inl, inr, arith, get_or-set_same, get_or-set_other, length-set}
use Rattle.std.proofs.Math.ListN.{set}
use Rattle.std.proofs.lemmas.Bool.{cases_eq, or_cases, or_left, or_right, eqb-true, eq-eqb}
use Rattle.graphs.specs.declared.edge.Edge.{Edge}
use Rattle.graphs.specs.Edges.{is_in, reached, reaches}
use Rattle.graphs.specs.Work.{Spreads}
use Rattle.graphs.specs.Components.{Grows, Components, Gathers, AreTurned}
use Rattle.graphs.proofs.Steps.{one_more, more_left, more_right}
use Rattle.graphs.proofs.Reached.{seed_reached, reached_within}
use Rattle.graphs.proofs.Spreading.{marked_below, mark_stays, mark_lands, mark_only, mark_again, spread_pop, spread_new, spread_seed}
use Rattle.graphs.proofs.Turned.{reached_from, more_seeds, split_seeds, turned_reaches, turn_back, from_below}

-- how a worklist grows
pub grows_same : (marked : List Bool) (work : List ℕ) → Grows marked work marked work
grows_same marked work = record { kept = λ z h. h; held = λ z h. h; fresh = λ z h. inl h; new = λ z h. inl h }

grows_case : (b : Bool) (marked : List Bool) (work work2 : List ℕ) (y : ℕ) → get_or marked y false ≡ b → work2 ≡ cond b work (work ++ y ∷ [])
    → Grows marked work (set marked y true) work2
grows_case true marked work work2 y q e =
    let P : List Bool → Type 0 = λ m. Grows marked work m work2 in
    let Q : List ℕ → Type 0 = λ w. Grows marked work marked w in
    subst P (mark_again marked y q) (subst Q (sym e) (grows_same marked work))
grows_case false marked work work2 y q e =
    let Q : List ℕ → Type 0 = λ w. Grows marked work (set marked y true) w in
    subst Q (sym e) (record {
      kept = λ z h. mark_stays marked y z h;
      held = λ z h. more_left (λ w. w == z) work y h;
      fresh = λ z h. elim (one_more (λ w. w == z) work y h) [
        | inl a ↦ inl a
        | inr k ↦ inr (ap (λ w. get_or marked w false) (sym (eqb-true y z k)) ∙ q)
      ];
      new = λ z h. elim (mark_only marked y z h) [
        | inl k ↦ inr (more_right (λ w. w == z) work y (eq-eqb y z (sym k)))
        | inr m ↦ inl m
      ];
    })

pub grows_mark : (marked marked2 : List Bool) (work work2 : List ℕ) (y : ℕ) → marked2 ≡ set marked y true
    → work2 ≡ cond (get_or marked y false) work (work ++ y ∷ []) → Grows marked work marked2 work2
grows_mark marked marked2 work work2 y q e =
    let P : List Bool → Type 0 = λ m. Grows marked work m work2 in
    subst P (sym q) (grows_case (get_or marked y false) marked work work2 y refl e)

unmarked_before : (a b : Bool) → (a ≡ true → b ≡ true) → b ≡ false → a ≡ false
unmarked_before true b h k = (let f : false ≡ true = sym k ∙ h refl in cc)
unmarked_before false b h k = refl

pub grows_on : (marked marked2 marked3 : List Bool) (work work2 work3 : List ℕ) → Grows marked work marked2 work2 → Grows marked2 work2 marked3 work3
    → Grows marked work marked3 work3
grows_on marked marked2 marked3 work work2 work3 g h = record {
  kept = λ z k. h.kept z (g.kept z k);
  held = λ z k. h.held z (g.held z k);
  fresh = λ z k. elim (h.fresh z k) [
    | inl a ↦ g.fresh z a
    | inr u ↦ inr (unmarked_before (get_or marked z false) (get_or marked2 z false) (g.kept z) u)
  ];
  new = λ z k. elim (h.new z k) [
    | inl a ↦ elim (g.new z a) [ inl o ↦ inl o | inr w ↦ inr (h.held z w) ]
    | inr w ↦ inr w
  ];
}

pub spread_more_seeds : (n : ℕ) (edges : List Edge) (seeds done : List ℕ) (marked : List Bool) (pending : List ℕ) (r : ℕ)
    → Spreads n edges seeds done marked pending → Spreads n edges (seeds ++ r ∷ []) done marked pending
spread_more_seeds n edges seeds done marked pending r was = record {
  len = was.len;
  begun = was.begun;
  held = was.held;
  only = λ x h. more_seeds n edges seeds r x (was.only x h);
  onward = was.onward;
}

-- with nothing pending, what is marked is what is reached
pub spread_marks : (n : ℕ) (edges : List Edge) (seeds : List ℕ) (marked : List Bool) → Spreads n edges seeds seeds marked [] → (x : ℕ)
    → reached n edges seeds x ≡ true → get_or marked x false ≡ true
spread_marks n edges seeds marked was x h =
    reached_within n edges seeds (λ z. get_or marked z false) (λ z b s. was.begun z s b)
    (λ z y bz by k e. elim (was.onward z y k e by) [ inl m ↦ m | inr o ↦ (let f : false ≡ true = o in cc) ]) x h

module _ (n : ℕ) (edges back : List Edge) (t : AreTurned edges back) (roots : List ℕ) (r : ℕ) where
  abbrev before : ℕ → Bool
  before x = reached n back roots x

  -- what reaches what reaches the roots reaches them
  before_closed : (x y : ℕ) → before y ≡ true → reaches n edges x y ≡ true → before x ≡ true
  before_closed x y b h = reached_from n back roots y x b (turned_reaches n edges back t x y (from_below n edges x y h) h)

  pub gather_start : (marked marked2 : List Bool) (component work : List ℕ) → Components n edges back roots marked component → r < n → get_or marked r false ≡ false
      → marked2 ≡ set marked r true → work ≡ r ∷ [] → Gathers n edges back roots r marked2 component work
  gather_start marked marked2 component work was b new q e =
      let P : List Bool → Type 0 = λ m. Gathers n edges back roots r m component work in
      let Q : List ℕ → Type 0 = λ w. Gathers n edges back roots r (set marked r true) component w in
      subst P (sym q) (subst Q (sym e) (record {
        component_len = was.component_len;
        spreads = spread_seed n back (roots ++ r ∷ []) roots (set marked r true) (r ∷ []) r
            (spread_new n back (roots ++ r ∷ []) roots marked [] (spread_more_seeds n back roots roots marked [] r was.spreads) r b
            (seed_reached n back (roots ++ r ∷ []) r b (more_right (λ z. z == r) roots r (eq-eqb r r refl))))
            (λ _. mark_lands marked r (omega (arith, was.spreads.len)));
        old = λ x h. (let m : get_or marked x false ≡ true = spread_marks n back roots marked was.spreads x h in
            (mark_stays marked r x m, was.named x m));
        fresh = λ x h. elim (or_cases (r == x) false h) [
          | inl k ↦ (let f : r ≡ x = eqb-true r x k in
              unmarked_before (before x) (get_or marked x false) (spread_marks n back roots marked was.spreads x) (ap (λ z. get_or marked z false) (sym f) ∙ new))
          | inr f ↦ (let g : false ≡ true = f in cc)
        ];
        named = λ x h. elim (mark_only marked r x h) [
          | inl k ↦ inr (or_left (r == x) false (eq-eqb r x (sym k)))
          | inr m ↦ inl (was.named x m)
        ];
        both = λ x bx l. (let w : (get_or marked x false ≡ true) × (reaches n edges x (get_or component x 0) ≡ true) × (reaches n edges (get_or component x 0) x ≡ true) = was.both x bx l in
            (mark_stays marked r x w.0, w.1, w.2));
        here = λ x bx l. inl (was.spreads.only x (was.both x bx l).0);
        same = was.same;
      }))

  -- a node that is taken from the list gets the root as its component
  module _ (claim : (x : ℕ) → before x ≡ false → reaches n edges x r ≡ true → reaches n edges r x ≡ true) (br : r < n)
      (marked : List Bool) (component all work : List ℕ) (x : ℕ) (was : Gathers n edges back roots r marked component all) (q : all ≡ work ++ x ∷ []) where
    x_in : is_in all x ≡ true
    x_in = ap (λ l. is_in l x) q ∙ more_right (λ z. z == x) work x (eq-eqb x x refl)

    x_marked : get_or marked x false ≡ true
    x_marked = was.spreads.held x x_in

    pub x_below : x < n
    x_below = omega (arith, marked_below marked x x_marked, was.spreads.len)

    x_out : before x ≡ false
    x_out = was.fresh x x_in

    x_to_r : reaches n edges x r ≡ true
    x_to_r = elim (split_seeds n back roots r x (was.spreads.only x x_marked)) [
      | inl b ↦ (let f : false ≡ true = sym x_out ∙ b in cc)
      | inr k ↦ turned_reaches n back edges (turn_back edges back t) r x br k
    ]

    r_to_x : reaches n edges r x ≡ true
    r_to_x = claim x x_out x_to_r

    abbrev named2 : List ℕ
    named2 = set component x r

    at_x : get_or named2 x 0 ≡ r
    at_x = get_or-set_same component x r 0 (omega (arith, was.component_len, x_below))

    at_other : (z : ℕ) → z ≢ x → get_or named2 z 0 ≡ get_or component z 0
    at_other z ne = get_or-set_other component x z r 0 ne

    -- what reaches x and is reached from it has the root as its component, if it has one
    same_here : (z : ℕ) → z < n → get_or component z 0 < n → reaches n edges x z ≡ true → get_or component z 0 ≡ r
    same_here z bz l h = elim (was.here z bz l) [
      | inl b ↦ (let f : false ≡ true = sym x_out ∙ before_closed x z b h in cc)
      | inr e ↦ e
    ]

    pub gather_name : Gathers n edges back roots r marked named2 (x ∷ work)
    gather_name = record {
      component_len = length-set component x r ∙ was.component_len;
      spreads = spread_pop n back (roots ++ r ∷ []) (roots ++ r ∷ []) marked all work x was.spreads q;
      old = λ z h. (let w : (get_or marked z false ≡ true) × (get_or component z 0 < n) = was.old z h in (
        w.0,
        elim (cases_eq z x) [
          | inl e ↦ (let a : get_or named2 z 0 ≡ r = ap (λ u. get_or named2 u 0) e ∙ at_x in omega arith)
          | inr ne ↦ omega (arith, at_other z ne, w.1)
        ],
      ));
      fresh = λ z h. was.fresh z (ap (λ l. is_in l z) q ∙ elim (or_cases (x == z) (is_in work z) h) [
        | inl a ↦ more_right (λ w. w == z) work x a
        | inr b ↦ more_left (λ w. w == z) work x b
      ]);
      named = λ z h. elim (cases_eq z x) [
        | inl e ↦ inr (or_left (x == z) (is_in work z) (eq-eqb x z (sym e)))
        | inr ne ↦ elim (was.named z h) [
          | inl l ↦ inl (omega (arith, at_other z ne, l))
          | inr w ↦ inr (elim (one_more (λ u. u == z) work x (ap (λ l. is_in l z) (sym q) ∙ w)) [
            | inl a ↦ or_right (x == z) (is_in work z) a
            | inr b ↦ or_left (x == z) (is_in work z) b
          ])
        ]
      ];
      both = λ z bz l. elim (cases_eq z x) [
        | inl e ↦ (let a : get_or named2 z 0 ≡ r = ap (λ u. get_or named2 u 0) e ∙ at_x in
            let P : ℕ → Type 0 = λ u. (get_or marked u false ≡ true) × (reaches n edges u (get_or named2 z 0) ≡ true) × (reaches n edges (get_or named2 z 0) u ≡ true) in
            let Q : ℕ → Type 0 = λ v. (get_or marked x false ≡ true) × (reaches n edges x v ≡ true) × (reaches n edges v x ≡ true) in
            subst P (sym e) (subst Q (sym a) (x_marked, x_to_r, r_to_x)))
        | inr ne ↦ (let Q : ℕ → Type 0 = λ v. (get_or marked z false ≡ true) × (reaches n edges z v ≡ true) × (reaches n edges v z ≡ true) in
            subst Q (sym (at_other z ne)) (was.both z bz (omega (arith, at_other z ne, l))))
      ];
      here = λ z bz l. elim (cases_eq z x) [
        | inl e ↦ inr (ap (λ u. get_or named2 u 0) e ∙ at_x)
        | inr ne ↦ elim (was.here z bz (omega (arith, at_other z ne, l))) [
          | inl b ↦ inl b
          | inr k ↦ inr (at_other z ne ∙ k)
        ]
      ];
      same = λ y z by bz ly lz h k. elim (cases_eq y x) [
        | inl e ↦ (let ay : get_or named2 y 0 ≡ r = ap (λ u. get_or named2 u 0) e ∙ at_x in
            elim (cases_eq z x) [
              | inl f ↦ ay ∙ sym (ap (λ u. get_or named2 u 0) f ∙ at_x)
              | inr nf ↦ ay ∙ sym (at_other z nf ∙ same_here z bz (omega (arith, at_other z nf, lz)) (ap (λ u. reaches n edges u z) (sym e) ∙ h))
            ])
        | inr ne ↦ elim (cases_eq z x) [
          | inl f ↦ (let az : get_or named2 z 0 ≡ r = ap (λ u. get_or named2 u 0) f ∙ at_x in
              at_other y ne ∙ same_here y by (omega (arith, at_other y ne, ly)) (ap (λ u. reaches n edges u y) (sym f) ∙ k) ∙ sym az)
          | inr nf ↦ at_other y ne ∙ was.same y z by bz (omega (arith, at_other y ne, ly)) (omega (arith, at_other z nf, lz)) h k ∙ sym (at_other z nf)
        ]
      ];
    }

  -- the node's row is gone through
  pub gather_visit : (marked marked2 : List Bool) (component work work2 : List ℕ) (x : ℕ) → Gathers n edges back roots r marked component (x ∷ work)
      → get_or component x 0 < n → Spreads n back (roots ++ r ∷ []) (roots ++ r ∷ []) marked2 work2 → Grows marked work marked2 work2
      → Gathers n edges back roots r marked2 component work2
  gather_visit marked marked2 component work work2 x was has now grows = record {
    component_len = was.component_len;
    spreads = now;
    old = λ z h. (let w : (get_or marked z false ≡ true) × (get_or component z 0 < n) = was.old z h in (grows.kept z w.0, w.1));
    fresh = λ z h. elim (grows.fresh z h) [
      | inl a ↦ was.fresh z (or_right (x == z) (is_in work z) a)
      | inr u ↦ unmarked_before (before z) (get_or marked z false) (λ b. (was.old z b).0) u
    ];
    named = λ z h. elim (grows.new z h) [
      | inl m ↦ elim (was.named z m) [
        | inl l ↦ inl l
        | inr w ↦ elim (or_cases (x == z) (is_in work z) w) [
          | inl k ↦ inl (let P : ℕ → Type 0 = λ u. get_or component u 0 < n in subst P (eqb-true x z k) has)
          | inr v ↦ inr (grows.held z v)
        ]
      ]
      | inr w ↦ inr w
    ];
    both = λ z bz l. (let w : (get_or marked z false ≡ true) × (reaches n edges z (get_or component z 0) ≡ true) × (reaches n edges (get_or component z 0) z ≡ true) = was.both z bz l in
        (grows.kept z w.0, w.1, w.2));
    here = was.here;
    same = was.same;
  }

  pub gather_end : (marked : List Bool) (component work : List ℕ) → Gathers n edges back roots r marked component work → work ≡ []
      → Components n edges back (roots ++ r ∷ []) marked component
  gather_end marked component work was e =
      let P : List ℕ → Type 0 = λ w. Spreads n back (roots ++ r ∷ []) (roots ++ r ∷ []) marked w in record {
        component_len = was.component_len;
        spreads = subst P e was.spreads;
        named = λ z h. elim (was.named z h) [
          | inl l ↦ l
          | inr w ↦ (let f : false ≡ true = sym (ap (λ l. is_in l z) e) ∙ w in cc)
        ];
        both = was.both;
        same = was.same;
      }

pub fresh_work : (marked : List Bool) (r : ℕ) (work work2 : List ℕ) → get_or marked r false ≡ false → work ≡ []
    → work2 ≡ cond (get_or marked r false) work (work ++ r ∷ []) → work2 ≡ r ∷ []
fresh_work marked r work work2 q e h =
    h ∙ ap (λ b. cond b work (work ++ r ∷ [])) q ∙ ap (λ w. w ++ r ∷ []) e

pub gather_spreads : (n m : ℕ) (edges back : List Edge) (roots : List ℕ) (r : ℕ) (marked : List Bool) (component all work seeds2 : List ℕ) (x : ℕ)
    → Gathers n edges back roots r marked component all → all ≡ work ++ x ∷ [] → seeds2 ≡ roots ++ r ∷ [] → m ≡ n
    → Spreads m back seeds2 seeds2 marked (x ∷ work)
gather_spreads n m edges back roots r marked component all work seeds2 x was q s e =
    let P : ℕ → Type 0 = λ k. Spreads k back seeds2 seeds2 marked (x ∷ work) in
    let Q : List ℕ → Type 0 = λ k. Spreads n back k k marked (x ∷ work) in
    subst P (sym e) (subst Q (sym s) (spread_pop n back (roots ++ r ∷ []) (roots ++ r ∷ []) marked all work x was.spreads q))

pub gather_below : (n : ℕ) (edges back : List Edge) (roots : List ℕ) (r : ℕ) (marked : List Bool) (component all work : List ℕ) (x : ℕ)
    → Gathers n edges back roots r marked component all → all ≡ work ++ x ∷ [] → x < n
gather_below n edges back roots r marked component all work x was q =
    omega (arith, marked_below marked x (was.spreads.held x (ap (λ l. is_in l x) q ∙ more_right (λ z. z == x) work x (eq-eqb x x refl))), was.spreads.len)

pub gather_step : (n m : ℕ) (edges back : List Edge) (t : AreTurned edges back) (roots : List ℕ) (r : ℕ)
    → ((x : ℕ) → reached n back roots x ≡ false → reaches n edges x r ≡ true → reaches n edges r x ≡ true) → r < n
    → (marked marked2 : List Bool) (component part2 all work work2 seeds2 : List ℕ) (x : ℕ)
    → Gathers n edges back roots r marked component all → all ≡ work ++ x ∷ [] → part2 ≡ set component x r → m ≡ n → seeds2 ≡ roots ++ r ∷ []
    → Spreads m back seeds2 seeds2 marked2 work2 → Grows marked work marked2 work2
    → Gathers n edges back roots r marked2 part2 work2
gather_step n m edges back t roots r claim br marked marked2 component part2 all work work2 seeds2 x was q p e s now grows =
    let P : ℕ → Type 0 = λ k. Spreads k back (roots ++ r ∷ []) (roots ++ r ∷ []) marked2 work2 in
    let Q : List ℕ → Type 0 = λ k. Spreads m back k k marked2 work2 in
    let R : List ℕ → Type 0 = λ k. Gathers n edges back roots r marked2 k work2 in
    let bx : x < n = gather_below n edges back roots r marked component all work x was q in
    let a : get_or (set component x r) x 0 ≡ r = get_or-set_same component x r 0 (omega (arith, was.component_len)) in
    subst R (sym p) (gather_visit n edges back t roots r marked marked2 (set component x r) work work2 x
    (gather_name n edges back t roots r claim br marked component all work x was q)
    (omega arith) (subst P e (subst Q s now)) grows)

pub gather_done : (n : ℕ) (edges back : List Edge) (t : AreTurned edges back) (roots roots2 : List ℕ) (r : ℕ) (marked : List Bool) (component work : List ℕ)
    → Gathers n edges back roots r marked component work → work ≡ [] → roots2 ≡ roots ++ r ∷ [] → Components n edges back roots2 marked component
gather_done n edges back t roots roots2 r marked component work was e q =
    let P : List ℕ → Type 0 = λ k. Components n edges back k marked component in
    subst P (sym q) (gather_end n edges back t roots r marked component work was e)
