-- A worklist: what is marked is reached, and what a marked node leads to is marked, unless the node is still open.
use Rattle.std.proofs.Common.{◌≡◌, ℕ, zero, suc, ◌+◌, ◌<◌, ◌≤◌, ◌==◌, ◌⊎◌, Bool, true, false, cond, List, [], ◌∷◌, ◌++◌, length, get_or, replicate, take, take_all, refl, sym, ◌∙◌, ap, subst, inl, inr, arith, get_or-set_same, get_or-set_other, length-set, length-append, append_assoc, ext_get_or}
use Rattle.std.proofs.Math.ListN.{set}
use Rattle.std.proofs.lemmas.List.{length-replicate, set-get_or, take_more}
use Rattle.std.proofs.lemmas.List.Sums.{sum_by-set}
use Rattle.std.proofs.lemmas.Bool.{cases_eq, or_cases, or_left, or_right, and_from, and_parts, eqb-true, eq-eqb, ltb-true, lt-ltb}
use Rattle.std.specs.Bool.{nat_lt}
use Rattle.std.proofs.lemmas.List.Folds.{list_any_at}
use Rattle.alg_laws.specs.Least.{table}
use Rattle.graphs.specs.declared.edge.Edge.{Edge}
use Rattle.graphs.specs.Edges.{is_edge, is_in, reached}
use Rattle.graphs.specs.Rows.{IsRow}
use Rattle.graphs.specs.Work.{Spreads, Visits, unmarked}
use Rattle.graphs.proofs.Steps.{one_more, more_left, more_right}
use Rattle.graphs.proofs.Reached.{seed_reached, edge_reached, reached_within, table_at, table-length}

pub marked_below : (marked : List Bool) (x : ℕ) → get_or marked x false ≡ true → x < length marked
marked_below [] x h = (let e : false ≡ true = h in cc)
marked_below (m ∷ marked) zero h = omega arith
marked_below (m ∷ marked) (suc x) h = omega (arith, marked_below marked x h)

pub mark_stays : (marked : List Bool) (y x : ℕ) → get_or marked x false ≡ true → get_or (set marked y true) x false ≡ true
mark_stays marked y x h = elim (cases_eq x y) [
  | inl e ↦ (let P : ℕ → Type 0 = λ z. get_or (set marked z true) x false ≡ true in
      subst P e (get_or-set_same marked x true false (marked_below marked x h)))
  | inr ne ↦ get_or-set_other marked y x true false ne ∙ h
]

pub mark_lands : (marked : List Bool) (y : ℕ) → y < length marked → get_or (set marked y true) y false ≡ true
mark_lands marked y b = get_or-set_same marked y true false b

pub mark_only : (marked : List Bool) (y x : ℕ) → get_or (set marked y true) x false ≡ true → (x ≡ y) ⊎ (get_or marked x false ≡ true)
mark_only marked y x h = elim (cases_eq x y) [
  | inl e ↦ inl e
  | inr ne ↦ inr (sym (get_or-set_other marked y x true false ne) ∙ h)
]

pub mark_count : (marked : List Bool) (y : ℕ) → y < length marked → get_or marked y false ≡ false → unmarked (set marked y true) + 1 ≡ unmarked marked
mark_count marked y b h =
    let s : unmarked (set marked y true) + cond (get_or marked y false) 0 1 ≡ unmarked marked + 0 = sum_by-set (λ m. cond m 0 1) marked y true false b in
    let c : cond {A = ℕ} (get_or marked y false) 0 1 ≡ 1 = ap (λ m. cond {A = ℕ} m 0 1) h in
    omega arith

module _ (n : ℕ) (edges : List Edge) (seeds done : List ℕ) (marked : List Bool) where
  pub spread_new : (pending : List ℕ) → Spreads n edges seeds done marked pending → (y : ℕ) → y < n → reached n edges seeds y ≡ true
      → Spreads n edges seeds done (set marked y true) (pending ++ y ∷ [])
  spread_new pending was y b r = record {
    len = length-set marked y true ∙ was.len;
    begun = λ s h l. mark_stays marked y s (was.begun s h l);
    held = λ x h. elim (one_more (λ z. z == x) pending y h) [
      | inl a ↦ mark_stays marked y x (was.held x a)
      | inr q ↦ (let P : ℕ → Type 0 = λ z. get_or (set marked y true) z false ≡ true in
          subst P (eqb-true y x q) (mark_lands marked y (omega (arith, was.len))))
    ];
    only = λ x h. elim (mark_only marked y x h) [
      | inl e ↦ (let P : ℕ → Type 0 = λ z. reached n edges seeds z ≡ true in subst P (sym e) r)
      | inr m ↦ was.only x m
    ];
    onward = λ x z h e l. elim (mark_only marked y x h) [
      | inl q ↦ inr (more_right (λ w. w == x) pending y (eq-eqb y x (sym q)))
      | inr m ↦ elim (was.onward x z m e l) [
        | inl k ↦ inl (mark_stays marked y z k)
        | inr o ↦ inr (more_left (λ w. w == x) pending y o)
      ]
    ];
  }

  -- a node whose edges all lead to marked nodes need not stay open
  pub spread_close : (pending : List ℕ) (x : ℕ) → Spreads n edges seeds done marked (x ∷ pending)
      → ((y : ℕ) → is_edge edges x y ≡ true → y < n → get_or marked y false ≡ true) → Spreads n edges seeds done marked pending
  spread_close pending x was all = record {
    len = was.len;
    begun = was.begun;
    held = λ z h. was.held z (or_right (x == z) (is_in pending z) h);
    only = was.only;
    onward = λ z y h e l. elim (was.onward z y h e l) [
      | inl k ↦ inl k
      | inr o ↦ elim (or_cases (x == z) (is_in pending z) o) [
        | inl q ↦ inl (all y (ap (λ w. is_edge edges w y) (eqb-true x z q) ∙ e) l)
        | inr p ↦ inr p
      ]
    ];
  }

  -- the order of the open nodes plays no component
  pub spread_pop : (all pending : List ℕ) (x : ℕ) → Spreads n edges seeds done marked all → all ≡ pending ++ x ∷ [] → Spreads n edges seeds done marked (x ∷ pending)
  spread_pop all pending x was q = record {
    len = was.len;
    begun = was.begun;
    held = λ z h. was.held z (ap (λ l. is_in l z) q ∙ elim (or_cases (x == z) (is_in pending z) h) [
      | inl a ↦ more_right (λ w. w == z) pending x a
      | inr b ↦ more_left (λ w. w == z) pending x b
    ]);
    only = was.only;
    onward = λ z y h e l. elim (was.onward z y h e l) [
      | inl k ↦ inl k
      | inr o ↦ inr (elim (one_more (λ w. w == z) pending x (sym (ap (λ l. is_in l z) q) ∙ o)) [
        | inl a ↦ or_right (x == z) (is_in pending z) a
        | inr b ↦ or_left (x == z) (is_in pending z) b
      ])
    ];
  }

  pub spread_seed : (pending : List ℕ) (s : ℕ) → Spreads n edges seeds done marked pending → (s < n → get_or marked s false ≡ true)
      → Spreads n edges seeds (done ++ s ∷ []) marked pending
  spread_seed pending s was h = record {
    len = was.len;
    begun = λ x i l. elim (one_more (λ w. w == x) done s i) [
      | inl a ↦ was.begun x a l
      | inr q ↦ (let e : s ≡ x = eqb-true s x q in
          let P : ℕ → Type 0 = λ z. get_or marked z false ≡ true in
          subst P e (h (omega arith)))
    ];
    held = was.held;
    only = was.only;
    onward = was.onward;
  }

  mark_case : (b : Bool) (front work work2 : List ℕ) (y : ℕ) → get_or marked y false ≡ b → Spreads n edges seeds done marked (front ++ work)
      → y < n → reached n edges seeds y ≡ true → work2 ≡ cond b work (work ++ y ∷ []) → Spreads n edges seeds done (set marked y true) (front ++ work2)
  mark_case true front work work2 y q was b r e =
      let P : List ℕ → Type 0 = λ w. Spreads n edges seeds done (set marked y true) (front ++ w) in
      let Q : List Bool → Type 0 = λ m. Spreads n edges seeds done m (front ++ work) in
      subst P (sym e) (subst Q (sym (ap (λ v. set marked y v) (sym q) ∙ set-get_or marked y false)) was)
  mark_case false front work work2 y q was b r e =
      let P : List ℕ → Type 0 = λ w. Spreads n edges seeds done (set marked y true) (front ++ w) in
      let Q : List ℕ → Type 0 = λ w. Spreads n edges seeds done (set marked y true) w in
      subst P (sym e) (subst Q (append_assoc front work (y ∷ [])) (spread_new (front ++ work) was y b r))

  pub spread_mark : (front work work2 : List ℕ) (marked2 : List Bool) (y : ℕ) → Spreads n edges seeds done marked (front ++ work)
      → y < n → reached n edges seeds y ≡ true → marked2 ≡ set marked y true → work2 ≡ cond (get_or marked y false) work (work ++ y ∷ [])
      → Spreads n edges seeds done marked2 (front ++ work2)
  spread_mark front work work2 marked2 y was b r q e =
      let P : List Bool → Type 0 = λ m. Spreads n edges seeds done m (front ++ work2) in
      subst P (sym q) (mark_case (get_or marked y false) front work work2 y refl was b r e)

count_case : (marked : List Bool) (b : Bool) (work work2 : List ℕ) (y : ℕ) → get_or marked y false ≡ b → y < length marked
    → work2 ≡ cond b work (work ++ y ∷ []) → unmarked (set marked y true) + length work2 ≡ unmarked marked + length work
count_case marked true work work2 y q b e =
    let m : unmarked (set marked y true) ≡ unmarked marked = ap unmarked (ap (λ v. set marked y v) (sym q) ∙ set-get_or marked y false) in
    let l : length work2 ≡ length work = ap length e in
    omega arith
count_case marked false work work2 y q b e =
    let l : length work2 ≡ length work + 1 = ap length e ∙ length-append work (y ∷ []) in
    omega (arith, mark_count marked y b q)

pub count_mark : (marked marked2 : List Bool) (work work2 : List ℕ) (y : ℕ) → y < length marked → marked2 ≡ set marked y true
    → work2 ≡ cond (get_or marked y false) work (work ++ y ∷ []) → unmarked marked2 + length work2 ≡ unmarked marked + length work
count_mark marked marked2 work work2 y b q e =
    let m : unmarked marked2 ≡ unmarked (set marked y true) = ap unmarked q in
    omega (arith, count_case marked (get_or marked y false) work work2 y refl b e)

pub mark_again : (marked : List Bool) (y : ℕ) → get_or marked y false ≡ true → marked ≡ set marked y true
mark_again marked y q = sym (ap (λ v. set marked y v) (sym q) ∙ set-get_or marked y false)

-- what the targets of a row so far are
pub pass_step : (marked marked2 : List Bool) (row : List ℕ) (k : ℕ) → k < length row
    → ((y : ℕ) → is_in (take k row) y ≡ true → get_or marked y false ≡ true)
    → get_or row k 0 < length marked → marked2 ≡ set marked (get_or row k 0) true
    → (y : ℕ) → is_in (take (k + 1) row) y ≡ true → get_or marked2 y false ≡ true
pass_step marked marked2 row k kb was b q y h =
    let P : List Bool → Type 0 = λ m. get_or m y false ≡ true in
    subst P (sym q) (elim (one_more (λ z. z == y) (take k row) (get_or row k 0) (sym (ap (λ l. is_in l y) (take_more row k 0 kb)) ∙ h)) [
      | inl a ↦ mark_stays marked (get_or row k 0) y (was y a)
      | inr e ↦ (let R : ℕ → Type 0 = λ i. get_or (set marked (get_or row k 0) true) i false ≡ true in
          subst R (eqb-true (get_or row k 0) y e) (mark_lands marked (get_or row k 0) b))
    ])

pub row_done : (n : ℕ) (edges : List Edge) (row : List ℕ) (marked : List Bool) (x k : ℕ) → IsRow n edges x row → length row ≤ k
    → ((y : ℕ) → is_in (take k row) y ≡ true → get_or marked y false ≡ true)
    → (y : ℕ) → is_edge edges x y ≡ true → y < n → get_or marked y false ≡ true
row_done n edges row marked x k is q passed y e l =
    passed y (ap (λ r. is_in r y) (take_all k row q) ∙ is.targets y ∙ and_from (is_edge edges x y) (nat_lt y n) e (lt-ltb y n l))

-- a target of a row is below n, and an edge leads to it
pub row_has : (n : ℕ) (edges : List Edge) (row : List ℕ) (x k : ℕ) → IsRow n edges x row → k < length row
    → (is_edge edges x (get_or row k 0) ≡ true) × (get_or row k 0 < n)
row_has n edges row x k is b =
    let y : ℕ = get_or row k 0 in
    let p : (is_edge edges x y ≡ true) × (nat_lt y n ≡ true) = and_parts (is_edge edges x y) (nat_lt y n)
    (sym (is.targets y) ∙ list_any_at (λ z. z == y) row k 0 b (eq-eqb y y refl)) in
    (p.0, ltb-true y n p.1)

same_answer : (a b : Bool) → (a ≡ true → b ≡ true) → (b ≡ true → a ≡ true) → a ≡ b
same_answer true b h k = sym (h refl)
same_answer false true h k = k refl
same_answer false false h k = refl

pub spread_end : (n : ℕ) (edges : List Edge) (seeds : List ℕ) (marked : List Bool) (pending : List ℕ) → Spreads n edges seeds seeds marked pending → pending ≡ []
    → marked ≡ table n (reached n edges seeds)
spread_end n edges seeds marked pending was none =
    let at : (x : ℕ) → get_or marked x false ≡ reached n edges seeds x = λ x. same_answer (get_or marked x false) (reached n edges seeds x)
    (was.only x)
    (reached_within n edges seeds (λ z. get_or marked z false) (λ z l s. was.begun z s l)
    (λ z y l m h e. elim (was.onward z y h e m) [
      | inl k ↦ k
      | inr o ↦ (let f : false ≡ true = sym (ap (λ l. is_in l z) none) ∙ o in cc)
    ]) x) in
    ext_get_or false marked (table n (reached n edges seeds)) (was.len ∙ sym (table-length n (reached n edges seeds)))
    (λ x l. at x ∙ sym (table_at n (reached n edges seeds) x (omega (arith, was.len))))

falses : (n x : ℕ) → get_or (replicate n false) x false ≡ false
falses zero x = refl
falses (suc n) zero = refl
falses (suc n) (suc x) = falses n x

pub spread_start : (n : ℕ) (edges : List Edge) (seeds : List ℕ) (marked : List Bool) (pending : List ℕ) → marked ≡ replicate n false → pending ≡ []
    → Spreads n edges seeds [] marked pending
spread_start n edges seeds marked pending q e =
    let none : (x : ℕ) → get_or marked x false ≡ true → ⊥ = λ x h. (let f : false ≡ true = sym (ap (λ l. get_or l x false) q ∙ falses n x) ∙ h in cc) in record {
      len = ap length q ∙ length-replicate n false;
      begun = λ s h l. (let f : false ≡ true = h in cc);
      held = λ x h. (let f : false ≡ true = sym (ap (λ l. is_in l x) e) ∙ h in cc);
      only = λ x h. absurd (none x h);
      onward = λ x y h e2 l. absurd (none x h);
    }

-- the steps of the loops
pub visit_step : (n : ℕ) (edges : List Edge) (seeds : List ℕ) (x : ℕ) (row : List ℕ) (i : ℕ) (marked marked2 : List Bool) (work work2 : List ℕ) (total : ℕ)
    → IsRow n edges x row → i < length row → Visits n edges seeds x row i marked work total
    → marked2 ≡ set marked (get_or row i 0) true → work2 ≡ cond (get_or marked (get_or row i 0) false) work (work ++ get_or row i 0 ∷ [])
    → Visits n edges seeds x row (i + 1) marked2 work2 total
visit_step n edges seeds x row i marked marked2 work work2 total is b was q e =
    let y : ℕ = get_or row i 0 in
    let h : (is_edge edges x y ≡ true) × (y < n) = row_has n edges row x i is b in
    let o : reached n edges seeds x ≡ true = was.spreads.only x (was.spreads.held x (or_left (x == x) (is_in work x) (eq-eqb x x refl))) in
    let r : reached n edges seeds y ≡ true = edge_reached n edges seeds x y o h.0 h.1 in
    let c : unmarked marked2 + length work2 ≡ unmarked marked + length work = count_mark marked marked2 work work2 y (omega (arith, was.spreads.len, h.1)) q e in
    record {
      spreads = spread_mark n edges seeds seeds marked (x ∷ []) work work2 marked2 y was.spreads h.1 r q e;
      passed = pass_step marked marked2 row i b was.passed (omega (arith, was.spreads.len, h.1)) q;
      count = c ∙ was.count;
    }

pub visit_init : (n : ℕ) (edges : List Edge) (seeds : List ℕ) (x : ℕ) (row : List ℕ) (marked : List Bool) (work : List ℕ)
    → Spreads n edges seeds seeds marked (x ∷ work) → Visits n edges seeds x row 0 marked work (unmarked marked + length work)
visit_init n edges seeds x row marked work was = record {
  spreads = was;
  passed = λ y h. (let f : false ≡ true = h in cc);
  count = refl;
}

pub visit_end : (n : ℕ) (edges : List Edge) (seeds : List ℕ) (x : ℕ) (row : List ℕ) (i : ℕ) (marked : List Bool) (work : List ℕ) (total : ℕ)
    → IsRow n edges x row → length row ≤ i → Visits n edges seeds x row i marked work total → Spreads n edges seeds seeds marked work
visit_end n edges seeds x row i marked work total is b was =
    spread_close n edges seeds seeds marked work x was.spreads (row_done n edges row marked x i is b was.passed)

done_more : (n : ℕ) (edges : List Edge) (seeds : List ℕ) (i : ℕ) (marked : List Bool) (work : List ℕ) → i < length seeds
    → Spreads n edges seeds (take i seeds ++ get_or seeds i 0 ∷ []) marked work → Spreads n edges seeds (take (i + 1) seeds) marked work
done_more n edges seeds i marked work b was =
    let P : List ℕ → Type 0 = λ d. Spreads n edges seeds d marked work in subst P (sym (take_more seeds i 0 b)) was

pub begin_here : (n : ℕ) (edges : List Edge) (seeds : List ℕ) (i : ℕ) (marked marked2 : List Bool) (work work2 : List ℕ) → i < length seeds
    → Spreads n edges seeds (take i seeds) marked work → get_or seeds i 0 < n
    → marked2 ≡ set marked (get_or seeds i 0) true → work2 ≡ cond (get_or marked (get_or seeds i 0) false) work (work ++ get_or seeds i 0 ∷ [])
    → Spreads n edges seeds (take (i + 1) seeds) marked2 work2
begin_here n edges seeds i marked marked2 work work2 b was l q e =
    let s : ℕ = get_or seeds i 0 in
    let r : reached n edges seeds s ≡ true = seed_reached n edges seeds s l (list_any_at (λ z. z == s) seeds i 0 b (eq-eqb s s refl)) in
    let P : List Bool → Type 0 = λ m. get_or m s false ≡ true in
    done_more n edges seeds i marked2 work2 b
    (spread_seed n edges seeds (take i seeds) marked2 work2 s (spread_mark n edges seeds (take i seeds) marked [] work work2 marked2 s was l r q e)
    (λ _. subst P (sym q) (mark_lands marked s (omega (arith, was.len)))))

pub begin_past : (n : ℕ) (edges : List Edge) (seeds : List ℕ) (i : ℕ) (marked marked2 : List Bool) (work work2 : List ℕ) → i < length seeds
    → Spreads n edges seeds (take i seeds) marked work → n ≤ get_or seeds i 0 → marked2 ≡ marked → work2 ≡ work
    → Spreads n edges seeds (take (i + 1) seeds) marked2 work2
begin_past n edges seeds i marked marked2 work work2 b was l q e =
    let P : List Bool → Type 0 = λ m. Spreads n edges seeds (take (i + 1) seeds) m work2 in
    let Q : List ℕ → Type 0 = λ w. Spreads n edges seeds (take (i + 1) seeds) marked w in
    subst P (sym q) (subst Q (sym e) (done_more n edges seeds i marked work b
    (spread_seed n edges seeds (take i seeds) marked work (get_or seeds i 0) was (λ m. absurd (omega arith)))))

pub begin_end : (n : ℕ) (edges : List Edge) (seeds : List ℕ) (i : ℕ) (marked : List Bool) (work : List ℕ) → length seeds ≤ i
    → Spreads n edges seeds (take i seeds) marked work → Spreads n edges seeds seeds marked work
begin_end n edges seeds i marked work b was =
    let P : List ℕ → Type 0 = λ d. Spreads n edges seeds d marked work in subst P (take_all i seeds b) was

pub no_items : {X : Type 0} (xs : List X) → length xs ≡ 0 → xs ≡ []
no_items [] h = refl
no_items (x ∷ xs) h = absurd (omega arith)

pub popped_below : (n : ℕ) (edges : List Edge) (seeds done : List ℕ) (marked : List Bool) (all pending : List ℕ) (x : ℕ)
    → Spreads n edges seeds done marked all → all ≡ pending ++ x ∷ [] → x < n
popped_below n edges seeds done marked all pending x was q =
    omega (arith, was.len, marked_below marked x (was.held x (ap (λ l. is_in l x) q ∙ more_right (λ w. w == x) pending x (eq-eqb x x refl))))
