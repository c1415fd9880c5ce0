-- The steps of a worklist with marks.
use Rattle.std.proofs.Common.{◌≡◌, ℕ, zero, suc, ◌+◌, ◌-◌, ◌<◌, ◌≤◌, ◌==◌, ◌⊎◌, ◌||◌, Bool, true, false, cond, List, [], ◌∷◌, ◌++◌, length, get_or, take, take_all, replicate, refl, sym, ◌∙◌, ap, subst, inl, inr, arith, get_or-set_same, get_or-set_other, length-set, length-append, append_assoc, bit_or, max, ◌≢◌, ◌^◌}
use Rattle.std.specs.Bool.{nat_lt}
use Rattle.std.specs.Int.{bit_at}
use Rattle.std.specs.Int.Bits.{or_self}
use Rattle.std.proofs.Math.ListN.{set}
use Rattle.std.proofs.lemmas.Nat.{le_or_l, or_lt}
use Rattle.std.proofs.lemmas.Nat.Bits.{bit_at_or, bit_at-lt, bit_at-zero}
use Rattle.std.proofs.lemmas.List.{length-replicate, set-get_or, take_more}
use Rattle.std.proofs.lemmas.List.Sums.{sum_by-set}
use Rattle.std.proofs.lemmas.Bool.{cases_eq, or_cases, or_left, or_right, and_from, eqb-true, eq-eqb, lt-ltb}
use Rattle.graphs.specs.declared.edge.Edge.{Edge}
use Rattle.graphs.specs.declared.edge.Seed.{Seed}
use Rattle.graphs.specs.Edges.{is_edge, is_in, reached}
use Rattle.graphs.specs.Rows.{IsRow}
use Rattle.graphs.specs.Marks.{has_mark, seeds_of, spare, Hands, Giving}
use Rattle.graphs.proofs.Steps.{one_more, more_left, more_right}
use Rattle.graphs.proofs.Reached.{seed_reached, edge_reached, reached_within}
use Rattle.graphs.proofs.Spreading.{row_has}
use Rattle.graphs.proofs.Counting.{zeros}

or_bits : (p q : ℕ) → p < 2 → q < 2 → (max p q == 1) ≡ ((p == 1) || (q == 1))
or_bits zero zero a b = refl
or_bits zero (suc zero) a b = refl
or_bits (suc zero) zero a b = refl
or_bits (suc zero) (suc zero) a b = refl
or_bits zero (suc (suc q)) a b = absurd (omega (arith, b))
or_bits (suc zero) (suc (suc q)) a b = absurd (omega (arith, b))
or_bits (suc (suc p)) q a b = absurd (omega (arith, a))

mark_or : (a b j : ℕ) → has_mark (bit_or a b) j ≡ (has_mark a j || has_mark b j)
mark_or a b j = ap (λ v. v == 1) (bit_at_or a b j) ∙ or_bits (bit_at a j) (bit_at b j) (bit_at-lt a j) (bit_at-lt b j)

mark_left : (a b j : ℕ) → has_mark a j ≡ true → has_mark (bit_or a b) j ≡ true
mark_left a b j h = mark_or a b j ∙ or_left (has_mark a j) (has_mark b j) h

mark_right : (a b j : ℕ) → has_mark b j ≡ true → has_mark (bit_or a b) j ≡ true
mark_right a b j h = mark_or a b j ∙ or_right (has_mark a j) (has_mark b j) h

-- the seeds of a mark, of one more
seeds_last : (j : ℕ) (b : Bool) (s : Seed) (x : ℕ) → has_mark s.marks j ≡ b → is_in (cond b (s.node ∷ []) []) x ≡ true → (has_mark s.marks j ≡ true) × (s.node ≡ x)
seeds_last j true s x q h = elim (or_cases (s.node == x) false h) [
  | inl a ↦ (q, eqb-true s.node x a)
  | inr f ↦ (let e : false ≡ true = f in cc)
]
seeds_last j false s x q h = (let e : false ≡ true = h in cc)

seeds_front : (j : ℕ) (b : Bool) (node : ℕ) (rest all : List ℕ) (x : ℕ) (P : Type 0)
    → (is_in all x ≡ true → (is_in rest x ≡ true) ⊎ P)
    → is_in (cond b (node ∷ all) all) x ≡ true → (is_in (cond b (node ∷ rest) rest) x ≡ true) ⊎ P
seeds_front j true node rest all x P f h = elim (or_cases (node == x) (is_in all x) h) [
  | inl a ↦ inl (or_left (node == x) (is_in rest x) a)
  | inr b ↦ elim (f b) [ inl c ↦ inl (or_right (node == x) (is_in rest x) c) | inr d ↦ inr d ]
]
seeds_front j false node rest all x P f h = f h

seeds_more : (j : ℕ) (done : List Seed) (s : Seed) (x : ℕ) → is_in (seeds_of j (done ++ s ∷ [])) x ≡ true
    → (is_in (seeds_of j done) x ≡ true) ⊎ ((has_mark s.marks j ≡ true) × (s.node ≡ x))
seeds_more j [] s x h = inr (seeds_last j (has_mark s.marks j) s x refl h)
seeds_more j (d ∷ done) s x h =
    seeds_front j (has_mark d.marks j) d.node (seeds_of j done) (seeds_of j (done ++ s ∷ [])) x ((has_mark s.marks j ≡ true) × (s.node ≡ x)) (seeds_more j done s x) h

seed_head : (b : Bool) (node : ℕ) (rest : List ℕ) → b ≡ true → is_in (cond b (node ∷ rest) rest) node ≡ true
seed_head true node rest h = or_left (node == node) (is_in rest node) (eq-eqb node node refl)
seed_head false node rest h = (let e : false ≡ true = h in cc)

seed_tail : (b : Bool) (node x : ℕ) (rest : List ℕ) → is_in rest x ≡ true → is_in (cond b (node ∷ rest) rest) x ≡ true
seed_tail true node x rest h = or_right (node == x) (is_in rest x) h
seed_tail false node x rest h = h

seed_in : (j : ℕ) (seeds : List Seed) (i : ℕ) (d : Seed) → i < length seeds → has_mark (get_or seeds i d).marks j ≡ true
    → is_in (seeds_of j seeds) (get_or seeds i d).node ≡ true
seed_in j [] i d b h = absurd (omega arith)
seed_in j (s ∷ seeds) zero d b h = seed_head (has_mark s.marks j) s.node (seeds_of j seeds) h
seed_in j (s ∷ seeds) (suc i) d b h =
    seed_tail (has_mark s.marks j) s.node (get_or seeds i d).node (seeds_of j seeds) (seed_in j seeds i d (omega (arith, b)) h)

module _ (marks : List ℕ) (y m : ℕ) where
  abbrev grown : List ℕ
  grown = set marks y (bit_or (get_or marks y 0) m)

  pub grown_stays : (j x : ℕ) → x < length marks → has_mark (get_or marks x 0) j ≡ true → has_mark (get_or grown x 0) j ≡ true
  grown_stays j x b h = elim (cases_eq x y) [
    | inl e ↦ (let P : ℕ → Type 0 = λ v. has_mark v j ≡ true in
        let s : get_or grown y 0 ≡ bit_or (get_or marks y 0) m = get_or-set_same marks y (bit_or (get_or marks y 0) m) 0 (omega arith) in
        subst P (sym (ap (λ z. get_or grown z 0) e ∙ s)) (mark_left (get_or marks y 0) m j (ap (λ z. has_mark (get_or marks z 0) j) (sym e) ∙ h)))
    | inr ne ↦ (let P : ℕ → Type 0 = λ v. has_mark v j ≡ true in
        subst P (sym (get_or-set_other marks y x (bit_or (get_or marks y 0) m) 0 ne)) h)
  ]

  pub grown_lands : (j : ℕ) → y < length marks → has_mark m j ≡ true → has_mark (get_or grown y 0) j ≡ true
  grown_lands j b h =
      let P : ℕ → Type 0 = λ v. has_mark v j ≡ true in
      subst P (sym (get_or-set_same marks y (bit_or (get_or marks y 0) m) 0 b)) (mark_right (get_or marks y 0) m j h)

  pub grown_only : (j x : ℕ) → y < length marks → has_mark (get_or grown x 0) j ≡ true
      → (has_mark (get_or marks x 0) j ≡ true) ⊎ ((x ≡ y) × (has_mark m j ≡ true))
  grown_only j x b h = elim (cases_eq x y) [
    | inl e ↦ (let s : get_or grown x 0 ≡ bit_or (get_or marks y 0) m = ap (λ z. get_or grown z 0) e ∙ get_or-set_same marks y (bit_or (get_or marks y 0) m) 0 b in
        elim (or_cases (has_mark (get_or marks y 0) j) (has_mark m j) (sym (mark_or (get_or marks y 0) m j) ∙ ap (λ v. has_mark v j) (sym s) ∙ h)) [
          | inl o ↦ inl (ap (λ z. has_mark (get_or marks z 0) j) e ∙ o)
          | inr k ↦ inr (e, k)
        ])
    | inr ne ↦ inl (ap (λ v. has_mark v j) (sym (get_or-set_other marks y x (bit_or (get_or marks y 0) m) 0 ne)) ∙ h)
  ]

pub grown_stays_any : (marks : List ℕ) (y m j z : ℕ) → y < length marks → has_mark (get_or marks z 0) j ≡ true → has_mark (get_or (grown marks y m) z 0) j ≡ true
grown_stays_any marks y m j z b h = elim (cases_eq z y) [
  | inl e ↦ grown_stays marks y m j z (omega arith) h
  | inr ne ↦ ap (λ v. has_mark v j) (get_or-set_other marks y z (bit_or (get_or marks y 0) m) 0 ne) ∙ h
]

module _ (n : ℕ) (edges : List Edge) (seeds done : List Seed) (marks : List ℕ) where
  -- marks that are reached are added to a node, which is pending then
  hands_new : (pending : List ℕ) → Hands n edges seeds done marks pending → (y m : ℕ) → y < n
      → ((j : ℕ) → j < 64 → has_mark m j ≡ true → reached n edges (seeds_of j seeds) y ≡ true)
      → Hands n edges seeds done (grown marks y m) (pending ++ y ∷ [])
  hands_new pending was y m b r =
      let by : y < length marks = omega (arith, was.len) in record {
        len = length-set marks y (bit_or (get_or marks y 0) m) ∙ was.len;
        begun = λ j s l i bs. grown_stays marks y m j s (omega (arith, was.len)) (was.begun j s l i bs);
        held = λ x h. elim (one_more (λ z. z == x) pending y h) [
          | inl a ↦ was.held x a
          | inr q ↦ (let e : y ≡ x = eqb-true y x q in omega arith)
        ];
        only = λ j x l bx h. elim (grown_only marks y m j x by h) [
          | inl o ↦ was.only j x l bx o
          | inr k ↦ (let P : ℕ → Type 0 = λ z. reached n edges (seeds_of j seeds) z ≡ true in subst P (sym k.0) (r j l k.1))
        ];
        onward = λ j x z l bx h e bz. elim (grown_only marks y m j x by h) [
          | inl o ↦ elim (was.onward j x z l bx o e bz) [
            | inl k ↦ inl (grown_stays marks y m j z (omega (arith, was.len)) k)
            | inr p ↦ inr (more_left (λ w. w == x) pending y p)
          ]
          | inr k ↦ inr (more_right (λ w. w == x) pending y (eq-eqb y x (sym k.0)))
        ];
      }

  hands_case : (b : Bool) (front work work2 : List ℕ) (y m : ℕ) → (bit_or (get_or marks y 0) m == get_or marks y 0) ≡ b
      → Hands n edges seeds done marks (front ++ work) → y < n
      → ((j : ℕ) → j < 64 → has_mark m j ≡ true → reached n edges (seeds_of j seeds) y ≡ true)
      → work2 ≡ cond b work (work ++ y ∷ []) → Hands n edges seeds done (grown marks y m) (front ++ work2)
  hands_case true front work work2 y m q was b r e =
      let P : List ℕ → Type 0 = λ w. Hands n edges seeds done (grown marks y m) (front ++ w) in
      let Q : List ℕ → Type 0 = λ v. Hands n edges seeds done v (front ++ work) in
      subst P (sym e) (subst Q (sym (ap (λ v. set marks y v) (eqb-true (bit_or (get_or marks y 0) m) (get_or marks y 0) q) ∙ set-get_or marks y 0)) was)
  hands_case false front work work2 y m q was b r e =
      let P : List ℕ → Type 0 = λ w. Hands n edges seeds done (grown marks y m) (front ++ w) in
      let Q : List ℕ → Type 0 = λ w. Hands n edges seeds done (grown marks y m) w in
      subst P (sym e) (subst Q (append_assoc front work (y ∷ [])) (hands_new (front ++ work) was y m b r))

  pub hands_add : (front work work2 marks2 : List ℕ) (y m : ℕ) → Hands n edges seeds done marks (front ++ work) → y < n
      → ((j : ℕ) → j < 64 → has_mark m j ≡ true → reached n edges (seeds_of j seeds) y ≡ true)
      → marks2 ≡ grown marks y m → work2 ≡ cond (bit_or (get_or marks y 0) m == get_or marks y 0) work (work ++ y ∷ [])
      → Hands n edges seeds done marks2 (front ++ work2)
  hands_add front work work2 marks2 y m was b r q e =
      let P : List ℕ → Type 0 = λ v. Hands n edges seeds done v (front ++ work2) in
      subst P (sym q) (hands_case (bit_or (get_or marks y 0) m == get_or marks y 0) front work work2 y m refl was b r e)

  hands_close : (pending : List ℕ) (x : ℕ) → Hands n edges seeds done marks (x ∷ pending)
      → ((j y : ℕ) → j < 64 → has_mark (get_or marks x 0) j ≡ true → is_edge edges x y ≡ true → y < n → has_mark (get_or marks y 0) j ≡ true)
      → Hands n edges seeds done marks pending
  hands_close pending x was all = record {
    len = was.len;
    begun = was.begun;
    held = λ z h. was.held z (or_right (x == z) (is_in pending z) h);
    only = was.only;
    onward = λ j z y l bz h e by. elim (was.onward j z y l bz h e by) [
      | inl k ↦ inl k
      | inr o ↦ elim (or_cases (x == z) (is_in pending z) o) [
        | inl q ↦ (let c : x ≡ z = eqb-true x z q in
            inl (all j y l (ap (λ w. has_mark (get_or marks w 0) j) c ∙ h) (ap (λ w. is_edge edges w y) c ∙ e) by))
        | inr p ↦ inr p
      ]
    ];
  }

  pub hands_pop : (all pending : List ℕ) (x : ℕ) → Hands n edges seeds done marks all → all ≡ pending ++ x ∷ [] → Hands n edges seeds done marks (x ∷ pending)
  hands_pop all pending x was q = record {
    len = was.len;
    begun = was.begun;
    held = λ z h. was.held z (ap (λ l. is_in l z) q ∙ elim (or_cases (x == z) (is_in pending z) h) [
      | inl a ↦ more_right (λ w. w == z) pending x a
      | inr b ↦ more_left (λ w. w == z) pending x b
    ]);
    only = was.only;
    onward = λ j z y l bz h e by. elim (was.onward j z y l bz h e by) [
      | inl k ↦ inl k
      | inr o ↦ inr (elim (one_more (λ w. w == z) pending x (sym (ap (λ l. is_in l z) q) ∙ o)) [
        | inl a ↦ or_right (x == z) (is_in pending z) a
        | inr b ↦ or_left (x == z) (is_in pending z) b
      ])
    ];
  }

  hands_seed : (pending : List ℕ) (s : Seed) → Hands n edges seeds done marks pending
      → ((j : ℕ) → j < 64 → s.node < n → has_mark s.marks j ≡ true → has_mark (get_or marks s.node 0) j ≡ true)
      → Hands n edges seeds (done ++ s ∷ []) marks pending
  hands_seed pending s was h = record {
    len = was.len;
    begun = λ j x l i bx. elim (seeds_more j done s x i) [
      | inl a ↦ was.begun j x l a bx
      | inr q ↦ (let P : ℕ → Type 0 = λ z. has_mark (get_or marks z 0) j ≡ true in
          subst P q.1 (h j l (omega (arith, q.1)) q.0))
    ];
    held = was.held;
    only = was.only;
    onward = was.onward;
  }

no_marks : (j : ℕ) → has_mark 0 j ≡ false
no_marks j = ap (λ v. v == 1) (bit_at-zero j)

pub hands_start : (n : ℕ) (edges : List Edge) (seeds : List Seed) (marks work : List ℕ) → marks ≡ replicate n 0 → work ≡ [] → Hands n edges seeds [] marks work
hands_start n edges seeds marks work q e =
    let none : (j x : ℕ) → has_mark (get_or marks x 0) j ≡ true → ⊥ = λ j x h.
    (let z : get_or marks x 0 ≡ 0 = ap (λ l. get_or l x 0) q ∙ zeros n x in
    let f : false ≡ true = sym (ap (λ v. has_mark v j) z ∙ no_marks j) ∙ h in cc) in record {
      len = ap length q ∙ length-replicate n 0;
      begun = λ j s l h b. (let f : false ≡ true = h in cc);
      held = λ x h. (let f : false ≡ true = sym (ap (λ l. is_in l x) e) ∙ h in cc);
      only = λ j x l b h. absurd (none j x h);
      onward = λ j x y l b h e2 b2. absurd (none j x h);
    }

done_more : (n : ℕ) (edges : List Edge) (seeds : List Seed) (i : ℕ) (d : Seed) (marks work : List ℕ) → i < length seeds
    → Hands n edges seeds (take i seeds ++ get_or seeds i d ∷ []) marks work → Hands n edges seeds (take (i + 1) seeds) marks work
done_more n edges seeds i d marks work b was =
    let P : List Seed → Type 0 = λ q. Hands n edges seeds q marks work in subst P (sym (take_more seeds i d b)) was

pub begin_here : (n : ℕ) (edges : List Edge) (seeds : List Seed) (i : ℕ) (d : Seed) (marks marks2 work work2 : List ℕ) → i < length seeds
    → Hands n edges seeds (take i seeds) marks work → (get_or seeds i d).node < n
    → marks2 ≡ grown marks (get_or seeds i d).node (get_or seeds i d).marks
    → work2 ≡ cond (bit_or (get_or marks (get_or seeds i d).node 0) (get_or seeds i d).marks == get_or marks (get_or seeds i d).node 0) work (work ++ (get_or seeds i d).node ∷ [])
    → Hands n edges seeds (take (i + 1) seeds) marks2 work2
begin_here n edges seeds i d marks marks2 work work2 b was l q e =
    let s : Seed = get_or seeds i d in
    let r : (j : ℕ) → j < 64 → has_mark s.marks j ≡ true → reached n edges (seeds_of j seeds) s.node ≡ true =
    λ j lj h. seed_reached n edges (seeds_of j seeds) s.node l (seed_in j seeds i d b h) in
    done_more n edges seeds i d marks2 work2 b
    (hands_seed n edges seeds (take i seeds) marks2 work2 s (hands_add n edges seeds (take i seeds) marks [] work work2 marks2 s.node s.marks was l r q e)
    (λ j lj bn h. ap (λ v. has_mark (get_or v s.node 0) j) q ∙ grown_lands marks s.node s.marks j (omega (arith, was.len)) h))

pub begin_past : (n : ℕ) (edges : List Edge) (seeds : List Seed) (i : ℕ) (d : Seed) (marks marks2 work work2 : List ℕ) → i < length seeds
    → Hands n edges seeds (take i seeds) marks work → n ≤ (get_or seeds i d).node → marks2 ≡ marks → work2 ≡ work
    → Hands n edges seeds (take (i + 1) seeds) marks2 work2
begin_past n edges seeds i d marks marks2 work work2 b was l q e =
    let P : List ℕ → Type 0 = λ v. Hands n edges seeds (take (i + 1) seeds) v work2 in
    let Q : List ℕ → Type 0 = λ w. Hands n edges seeds (take (i + 1) seeds) marks w in
    subst P (sym q) (subst Q (sym e) (done_more n edges seeds i d marks work b
    (hands_seed n edges seeds (take i seeds) marks work (get_or seeds i d) was (λ j lj bn h. absurd (omega arith)))))

pub begin_end : (n : ℕ) (edges : List Edge) (seeds : List Seed) (i : ℕ) (marks work : List ℕ) → length seeds ≤ i
    → Hands n edges seeds (take i seeds) marks work → Hands n edges seeds seeds marks work
begin_end n edges seeds i marks work b was =
    let P : List Seed → Type 0 = λ d. Hands n edges seeds d marks work in subst P (take_all i seeds b) was

pub give_init : (n : ℕ) (edges : List Edge) (seeds : List Seed) (x m : ℕ) (row marks work : List ℕ)
    → Hands n edges seeds seeds marks (x ∷ work) → get_or marks x 0 ≡ m → Giving n edges seeds x m row 0 marks work (spare marks + length work)
give_init n edges seeds x m row marks work was q = record {
  hands = was;
  here = q;
  passed = λ j y l h k. (let f : false ≡ true = h in cc);
  count = omega arith;
}

pub give_step : (n : ℕ) (edges : List Edge) (seeds : List Seed) (x m : ℕ) (row : List ℕ) (i : ℕ) (marks marks2 work work2 : List ℕ) (total : ℕ)
    → IsRow n edges x row → i < length row → Giving n edges seeds x m row i marks work total
    → marks2 ≡ grown marks (get_or row i 0) m
    → work2 ≡ cond (bit_or (get_or marks (get_or row i 0) 0) m == get_or marks (get_or row i 0) 0) work (work ++ get_or row i 0 ∷ [])
    → spare marks2 + length work2 ≤ spare marks + length work
    → Giving n edges seeds x m row (i + 1) marks2 work2 total
give_step n edges seeds x m row i marks marks2 work work2 total is b was q e c =
    let y : ℕ = get_or row i 0 in
    let h : (is_edge edges x y ≡ true) × (y < n) = row_has n edges row x i is b in
    let bx : x < n = was.hands.held x (or_left (x == x) (is_in work x) (eq-eqb x x refl)) in
    let by : y < length marks = omega (arith, was.hands.len, h.1) in
    let r : (j : ℕ) → j < 64 → has_mark m j ≡ true → reached n edges (seeds_of j seeds) y ≡ true =
    λ j l k. edge_reached n edges (seeds_of j seeds) x y (was.hands.only j x l bx (ap (λ v. has_mark v j) was.here ∙ k)) h.0 h.1 in
    record {
      hands = hands_add n edges seeds seeds marks (x ∷ []) work work2 marks2 y m was.hands h.1 r q e;
      here = ap (λ v. get_or v x 0) q ∙ elim (cases_eq x y) [
        | inl d ↦ ap (λ z. get_or (grown marks y m) z 0) d ∙ get_or-set_same marks y (bit_or (get_or marks y 0) m) 0 by
            ∙ ap (λ v. bit_or v m) (ap (λ z. get_or marks z 0) (sym d) ∙ was.here) ∙ or_self m
        | inr ne ↦ get_or-set_other marks y x (bit_or (get_or marks y 0) m) 0 ne ∙ was.here
      ];
      passed = λ j z l k o. ap (λ v. has_mark (get_or v z 0) j) q
          ∙ elim (one_more (λ w. w == z) (take i row) y (sym (ap (λ p. is_in p z) (take_more row i 0 b)) ∙ k)) [
            | inl a ↦ grown_stays_any marks y m j z by (was.passed j z l a o)
            | inr d ↦ (let P : ℕ → Type 0 = λ u. has_mark (get_or (grown marks y m) u 0) j ≡ true in
                subst P (eqb-true y z d) (grown_lands marks y m j by o))
          ];
      count = omega (arith, was.count);
    }

pub give_end : (n : ℕ) (edges : List Edge) (seeds : List Seed) (x m : ℕ) (row : List ℕ) (i : ℕ) (marks work : List ℕ) (total : ℕ)
    → IsRow n edges x row → length row ≤ i → Giving n edges seeds x m row i marks work total → Hands n edges seeds seeds marks work
give_end n edges seeds x m row i marks work total is b was =
    hands_close n edges seeds seeds marks work x was.hands (λ j y l h e by.
    was.passed j y l (ap (λ r. is_in r y) (take_all i row b) ∙ is.targets y ∙ and_from (is_edge edges x y) (nat_lt y n) e (lt-ltb y n by))
    (ap (λ v. has_mark v j) (sym was.here) ∙ h))

same_answer : (a b : Bool) → (a ≡ true → b ≡ true) → (b ≡ true → a ≡ true) → a ≡ b
same_answer true b h k = sym (h refl)
same_answer false true h k = k refl
same_answer false false h k = refl

pub hands_end : (n : ℕ) (edges : List Edge) (seeds : List Seed) (marks work : List ℕ) → Hands n edges seeds seeds marks work → work ≡ []
    → (j x : ℕ) → j < 64 → x < n → has_mark (get_or marks x 0) j ≡ reached n edges (seeds_of j seeds) x
hands_end n edges seeds marks work was none j x l b = same_answer (has_mark (get_or marks x 0) j) (reached n edges (seeds_of j seeds) x)
    (was.only j x l b)
    (reached_within n edges (seeds_of j seeds) (λ z. has_mark (get_or marks z 0) j) (λ z bz s. was.begun j z l s bz)
    (λ z y bz by h e. elim (was.onward j z y l bz h e by) [
      | inl k ↦ k
      | inr o ↦ (let f : false ≡ true = sym (ap (λ p. is_in p z) none) ∙ o in cc)
    ]) x)

pub spare_less : (marks : List ℕ) (y more : ℕ) → y < length marks → more < 2 ^ 64 → get_or marks y 0 < more → spare (set marks y more) + 1 ≤ spare marks
spare_less marks y more b f l =
    let s : spare (set marks y more) + (18446744073709551615 - get_or marks y 0) ≡ spare marks + (18446744073709551615 - more) =
    sum_by-set (λ v. 18446744073709551615 - v) marks y more 0 b in
    omega arith

pub or_more : (a m : ℕ) → bit_or a m ≢ a → a < bit_or a m
or_more a m ne = omega (arith, le_or_l a m)

pub marks_again : (marks : List ℕ) (y m : ℕ) → bit_or (get_or marks y 0) m ≡ get_or marks y 0 → marks ≡ grown marks y m
marks_again marks y m q = sym (ap (λ v. set marks y v) q ∙ set-get_or marks y 0)

pub popped_below : (n : ℕ) (edges : List Edge) (seeds done : List Seed) (marks all pending : List ℕ) (x : ℕ)
    → Hands n edges seeds done marks all → all ≡ pending ++ x ∷ [] → x < n
popped_below n edges seeds done marks all pending x was q =
    was.held x (ap (λ l. is_in l x) q ∙ more_right (λ w. w == x) pending x (eq-eqb x x refl))

pub hands_pop_at : (n : ℕ) (edges : List Edge) (seeds done : List Seed) (marks marks2 all pending : List ℕ) (x : ℕ) → Hands n edges seeds done marks all
    → all ≡ pending ++ x ∷ [] → marks2 ≡ marks → Hands (length marks2) edges seeds done marks2 (x ∷ pending)
hands_pop_at n edges seeds done marks marks2 all pending x was q e =
    let P : List ℕ → Type 0 = λ v. Hands (length v) edges seeds done v (x ∷ pending) in
    let Q : ℕ → Type 0 = λ m. Hands m edges seeds done marks (x ∷ pending) in
    subst P (sym e) (subst Q (sym was.len) (hands_pop n edges seeds done marks all pending x was q))

pub add_count : (marks work work2 : List ℕ) (y m : ℕ) → y < length marks → get_or marks y 0 < 2 ^ 64 → m < 2 ^ 64 → bit_or (get_or marks y 0) m ≢ get_or marks y 0
    → work2 ≡ work ++ y ∷ [] → spare (set marks y (bit_or (get_or marks y 0) m)) + length work2 ≤ spare marks + length work
add_count marks work work2 y m b f g ne e =
    let l : length work2 ≡ length work + 1 = ap length e ∙ length-append work (y ∷ []) in
    omega (arith, spare_less marks y (bit_or (get_or marks y 0) m) b (or_lt 64 (get_or marks y 0) m f g) (or_more (get_or marks y 0) m ne))

pub held_below : (n : ℕ) (edges : List Edge) (seeds done : List Seed) (marks pending : List ℕ) (x : ℕ) → Hands n edges seeds done marks (x ∷ pending) → x < n
held_below n edges seeds done marks pending x was = was.held x (or_left (x == x) (is_in pending x) (eq-eqb x x refl))
