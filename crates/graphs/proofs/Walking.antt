-- The steps of a walk in depth.
use Rattle.std.proofs.Common.{◌≡◌, ℕ, zero, suc, ◌+◌, ◌-◌, ◌<◌, ◌≤◌, ◌==◌, ◌⊎◌, Bool, true, false, cond, List, [], ◌∷◌, ◌++◌, length, get_or, take, refl, sym, ◌∙◌, ap, subst, inl, inr, arith, get_or-set_same, get_or-set_other, length-set, length-append, get_or-take, length-take-le, replicate, sum}
use Rattle.std.specs.Bool.{nat_lt}
use Rattle.std.proofs.Math.ListN.{set}
use Rattle.std.proofs.Math.Seq.{get_or-append_seam}
use Rattle.std.proofs.Math.Nat.{eq-or-lt_of_le}
use Rattle.std.proofs.lemmas.List.{get_or_append_left, length-replicate}
use Rattle.std.proofs.lemmas.List.Sums.{sum_by-set, sum_by-append}
use Rattle.std.proofs.lemmas.List.Folds.{list_any_at}
use Rattle.std.proofs.lemmas.Bool.{cases_eq, cases_lt, or_left, and_from, and_parts, eqb-true, eq-eqb, ltb-true, lt-ltb}
use Rattle.graphs.specs.declared.edge.Edge.{Edge}
use Rattle.graphs.specs.Edges.{is_edge, is_in, reaches}
use Rattle.graphs.specs.Work.{unmarked}
use Rattle.graphs.specs.Walk.{IsDepthOrder, Walks, AreRowsOf}
use Rattle.graphs.proofs.Steps.{one_more, more_left, more_right}
use Rattle.graphs.proofs.Reached.{seed_reached, edge_reached}
use Rattle.graphs.specs.Rows.{AreRows, row_at}
use Rattle.graphs.proofs.RowLists.{in_gives, row_is, component_len}
use Rattle.graphs.proofs.Spreading.{marked_below, mark_stays, mark_lands, mark_only, mark_count, mark_again}

pub self_reaches : (n : ℕ) (edges : List Edge) (x : ℕ) → x < n → reaches n edges x x ≡ true
self_reaches n edges x b = seed_reached n edges (x ∷ []) x b (or_left (x == x) false (eq-eqb x x refl))

pub reaches_on : (n : ℕ) (edges : List Edge) (x y z : ℕ) → reaches n edges x y ≡ true → is_edge edges y z ≡ true → z < n → reaches n edges x z ≡ true
reaches_on n edges x y z r e b = edge_reached n edges (x ∷ []) y z r e b

-- lists one longer
module _ (xs : List ℕ) (y : ℕ) where
  abbrev more : List ℕ
  more = xs ++ y ∷ []

  more_len : length more ≡ length xs + 1
  more_len = length-append xs (y ∷ [])

  at_old : (i : ℕ) → i < length xs → get_or more i 0 ≡ get_or xs i 0
  at_old i b = get_or_append_left xs (y ∷ []) 0 i b

  at_new : get_or more (length xs) 0 ≡ y
  at_new = get_or-append_seam xs y [] 0

  old_or_last : (i : ℕ) → i < length more → (i ≡ length xs) ⊎ (i < length xs)
  old_or_last i b = (let le : i ≤ length xs = omega (arith, more_len) in eq-or-lt_of_le le)

at_in : (xs : List ℕ) (i : ℕ) → i < length xs → is_in xs (get_or xs i 0) ≡ true
at_in xs i b = list_any_at (λ z. z == get_or xs i 0) xs i 0 b (eq-eqb (get_or xs i 0) (get_or xs i 0) refl)

module _ (n : ℕ) (edges : List Edge) (row : ℕ → List ℕ) (rows : AreRowsOf n edges row) (seen : List Bool) (left stack done : List ℕ)
    (was : Walks n edges row seen left stack done) where
  -- what an edge leads to from a node that the walk is done with is seen
  done_leads : (x y : ℕ) → is_in done x ≡ true → is_edge edges x y ≡ true → y < n → get_or seen y false ≡ true
  done_leads x y d e b =
      let f : (x < n) × (get_or left x 0 ≡ 0) = was.finished x d in
      let w : (k : ℕ) × (k < length (row x)) × (get_or (row x) k 0 ≡ y) =
      in_gives (row x) y (rows.row_is x f.0 y ∙ and_from (is_edge edges x y) (nat_lt y n) e (lt-ltb y n b)) in
      let P : ℕ → Type 0 = λ z. get_or seen z false ≡ true in
      subst P w.2 (was.passed x w.0 f.0 (omega (arith, f.1)) w.1)

  -- an unseen node comes onto the path, where each of the path reaches it
  pub walk_push : (y : ℕ) → y < n → get_or seen y false ≡ false → ((i : ℕ) → i < length stack → reaches n edges (get_or stack i 0) y ≡ true)
      → Walks n edges row (set seen y true) left (stack ++ y ∷ []) done
  walk_push y b new along = record {
    seen_len = length-set seen y true ∙ was.seen_len;
    left_len = was.left_len;
    count = omega (arith, was.count, mark_count seen y (omega (arith, was.seen_len)) new, more_len stack y);
    stack_seen = λ x h. elim (one_more (λ z. z == x) stack y h) [
      | inl a ↦ mark_stays seen y x (was.stack_seen x a)
      | inr q ↦ (let P : ℕ → Type 0 = λ z. get_or (set seen y true) z false ≡ true in
          subst P (eqb-true y x q) (mark_lands seen y (omega (arith, was.seen_len))))
    ];
    placed = λ x h. elim (mark_only seen y x h) [
      | inl e ↦ inl (more_right (λ z. z == x) stack y (eq-eqb y x (sym e)))
      | inr m ↦ elim (was.placed x m) [
        | inl s ↦ inl (more_left (λ z. z == x) stack y s)
        | inr d ↦ inr d
      ]
    ];
    passed = λ x k bx l m. mark_stays seen y (get_or (row x) k 0) (was.passed x k bx l m);
    fits = was.fits;
    finished = was.finished;
    path = λ i j l m. elim (old_or_last stack y j m) [
      | inl e ↦ elim (old_or_last stack y i (omega (arith, more_len stack y))) [
        | inl f ↦ (let P : ℕ → Type 0 = λ u. reaches n edges u (get_or (stack ++ y ∷ []) j 0) ≡ true in
            let Q : ℕ → Type 0 = λ u. reaches n edges y u ≡ true in
            subst P (sym (ap (λ z. get_or (stack ++ y ∷ []) z 0) f ∙ at_new stack y))
            (subst Q (sym (ap (λ z. get_or (stack ++ y ∷ []) z 0) e ∙ at_new stack y)) (self_reaches n edges y b)))
        | inr o ↦ (let P : ℕ → Type 0 = λ u. reaches n edges u (get_or (stack ++ y ∷ []) j 0) ≡ true in
            let Q : ℕ → Type 0 = λ u. reaches n edges (get_or stack i 0) u ≡ true in
            subst P (sym (at_old stack y i o)) (subst Q (sym (ap (λ z. get_or (stack ++ y ∷ []) z 0) e ∙ at_new stack y)) (along i o)))
      ]
      | inr o ↦ (let P : ℕ → Type 0 = λ u. reaches n edges u (get_or (stack ++ y ∷ []) j 0) ≡ true in
          let Q : ℕ → Type 0 = λ u. reaches n edges (get_or stack i 0) u ≡ true in
          let lo : i < length stack = omega arith in
          subst P (sym (at_old stack y i lo)) (subst Q (sym (at_old stack y j o)) (was.path i j l o)))
    ];
    back = was.back;
    up = λ i j a l m s e. elim (old_or_last stack y a s) [
      | inl q ↦ (let t : get_or (stack ++ y ∷ []) a 0 ≡ y = ap (λ z. get_or (stack ++ y ∷ []) z 0) q ∙ at_new stack y in
          let e2 : is_edge edges (get_or done j 0) y ≡ true = ap (λ z. is_edge edges (get_or done j 0) z) (sym t) ∙ e in
          let bad : false ≡ true = sym new ∙ done_leads (get_or done j 0) y (at_in done j (omega arith)) e2 b in cc)
      | inr o ↦ (let P : ℕ → Type 0 = λ u. reaches n edges u (get_or done i 0) ≡ true in
          subst P (sym (at_old stack y a o)) (was.up i j a l m o (ap (λ z. is_edge edges (get_or done j 0) z) (sym (at_old stack y a o)) ∙ e)))
    ];
  }

  -- a target that is seen is passed
  pub walk_pass : (x k : ℕ) → x < n → get_or left x 0 ≡ k + 1 → get_or seen (get_or (row x) k 0) false ≡ true
      → Walks n edges row seen (set left x k) stack done
  walk_pass x k b l s = record {
    seen_len = was.seen_len;
    left_len = length-set left x k ∙ was.left_len;
    count = was.count;
    stack_seen = was.stack_seen;
    placed = was.placed;
    passed = λ z m bz o p. elim (cases_eq z x) [
      | inl e ↦ (let same : get_or (set left x k) x 0 ≡ k = get_or-set_same left x k 0 (omega (arith, was.left_len)) in
          let at : get_or (set left x k) z 0 ≡ k = ap (λ v. get_or (set left x k) v 0) e ∙ same in
          let km : k ≤ m = omega arith in
          elim (eq-or-lt_of_le km) [
            | inl q ↦ (let P : ℕ → Type 0 = λ v. get_or seen (get_or (row v) m 0) false ≡ true in
                let Q : ℕ → Type 0 = λ v. get_or seen (get_or (row x) v 0) false ≡ true in
                subst P (sym e) (subst Q q s))
            | inr lt ↦ was.passed z m bz (omega (arith, ap (λ v. get_or left v 0) e, l)) p
          ])
      | inr ne ↦ was.passed z m bz (omega (arith, get_or-set_other left x z k 0 ne)) p
    ];
    fits = λ z bz. elim (cases_eq z x) [
      | inl e ↦ (let same : get_or (set left x k) x 0 ≡ k = get_or-set_same left x k 0 (omega (arith, was.left_len)) in
          let at : get_or (set left x k) z 0 ≡ k = ap (λ v. get_or (set left x k) v 0) e ∙ same in
          omega (arith, was.fits z bz, ap (λ v. get_or left v 0) e))
      | inr ne ↦ omega (arith, get_or-set_other left x z k 0 ne, was.fits z bz)
    ];
    finished = λ z d. (let f : (z < n) × (get_or left z 0 ≡ 0) = was.finished z d in
        elim (cases_eq z x) [
          | inl e ↦ absurd (omega (arith, f.1, ap (λ v. get_or left v 0) e, l))
          | inr ne ↦ (f.0, get_or-set_other left x z k 0 ne ∙ f.1)
        ]);
    path = was.path;
    back = was.back;
    up = was.up;
  }

-- the last of the path is done, with no target left
pub walk_done : (n : ℕ) (edges : List Edge) (row : ℕ → List ℕ) (seen : List Bool) (left stack done : List ℕ) (x : ℕ)
    → Walks n edges row seen left (stack ++ x ∷ []) done → get_or left x 0 ≡ 0 → Walks n edges row seen left stack (done ++ x ∷ [])
walk_done n edges row seen left stack done x was none =
    let bx : x < n = omega (arith, was.seen_len, marked_below seen x (was.stack_seen x (more_right (λ z. z == x) stack x (eq-eqb x x refl)))) in
    let top : length stack < length (stack ++ x ∷ []) = omega (arith, more_len stack x) in
    let to_top : (a : ℕ) → a < length stack → reaches n edges (get_or stack a 0) x ≡ true = λ a b.
    (let P : ℕ → Type 0 = λ u. reaches n edges u x ≡ true in
    let Q : ℕ → Type 0 = λ u. reaches n edges (get_or (stack ++ x ∷ []) a 0) u ≡ true in
    subst P (at_old stack x a b) (subst Q (at_new stack x) (was.path a (length stack) (omega arith) top))) in
    record {
      seen_len = was.seen_len;
      left_len = was.left_len;
      count = omega (arith, was.count, more_len stack x, more_len done x);
      stack_seen = λ z h. was.stack_seen z (more_left (λ w. w == z) stack x h);
      placed = λ z h. elim (was.placed z h) [
        | inl s ↦ elim (one_more (λ w. w == z) stack x s) [
          | inl o ↦ inl o
          | inr q ↦ inr (more_right (λ w. w == z) done x q)
        ]
        | inr d ↦ inr (more_left (λ w. w == z) done x d)
      ];
      passed = was.passed;
      fits = was.fits;
      finished = λ z h. elim (one_more (λ w. w == z) done x h) [
        | inl d ↦ was.finished z d
        | inr q ↦ (let e : x ≡ z = eqb-true x z q in (omega arith, ap (λ v. get_or left v 0) (sym e) ∙ none))
      ];
      path = λ i j l b.
          (let P : ℕ → Type 0 = λ u. reaches n edges u (get_or stack j 0) ≡ true in
          let Q : ℕ → Type 0 = λ u. reaches n edges (get_or (stack ++ x ∷ []) i 0) u ≡ true in
          let bi : i < length stack = omega arith in
          subst P (at_old stack x i bi) (subst Q (at_old stack x j b) (was.path i j l (omega (arith, more_len stack x)))));
      back = λ i j k l m b e. elim (old_or_last done x k b) [
        | inl q ↦ (let t : get_or (done ++ x ∷ []) k 0 ≡ x = ap (λ z. get_or (done ++ x ∷ []) z 0) q ∙ at_new done x in
            let P : ℕ → Type 0 = λ u. reaches n edges u (get_or (done ++ x ∷ []) i 0) ≡ true in
            subst P (sym t) (elim (old_or_last done x i (omega (arith, more_len done x))) [
              | inl f ↦ (let Q : ℕ → Type 0 = λ u. reaches n edges x u ≡ true in
                  subst Q (sym (ap (λ z. get_or (done ++ x ∷ []) z 0) f ∙ at_new done x)) (self_reaches n edges x bx))
              | inr o ↦ (let bj : j < length done = omega arith in
                  let Q : ℕ → Type 0 = λ u. reaches n edges x u ≡ true in
                  let R : ℕ → Type 0 = λ u. reaches n edges u (get_or done i 0) ≡ true in
                  let e2 : is_edge edges (get_or done j 0) (get_or (stack ++ x ∷ []) (length stack) 0) ≡ true =
                  ap (λ z. is_edge edges (get_or done j 0) z) (at_new stack x ∙ sym t) ∙ ap (λ z. is_edge edges z (get_or (done ++ x ∷ []) k 0)) (sym (at_old done x j bj)) ∙ e in
                  subst Q (sym (at_old done x i o)) (subst R (at_new stack x) (was.up i j (length stack) l o top e2)))
            ]))
        | inr o ↦ (let bi : i < length done = omega arith in
            let bj : j < length done = omega arith in
            let P : ℕ → Type 0 = λ u. reaches n edges u (get_or (done ++ x ∷ []) i 0) ≡ true in
            let Q : ℕ → Type 0 = λ u. reaches n edges (get_or done k 0) u ≡ true in
            let e2 : is_edge edges (get_or done j 0) (get_or done k 0) ≡ true =
            ap (λ z. is_edge edges (get_or done j 0) z) (sym (at_old done x k o)) ∙ ap (λ z. is_edge edges z (get_or (done ++ x ∷ []) k 0)) (sym (at_old done x j bj)) ∙ e in
            subst P (sym (at_old done x k o)) (subst Q (sym (at_old done x i bi)) (was.back i j k l m o e2)))
      ];
      up = λ i j a l b s e. elim (old_or_last done x i b) [
        | inl q ↦ (let t : get_or (done ++ x ∷ []) i 0 ≡ x = ap (λ z. get_or (done ++ x ∷ []) z 0) q ∙ at_new done x in
            let Q : ℕ → Type 0 = λ u. reaches n edges (get_or stack a 0) u ≡ true in subst Q (sym t) (to_top a s))
        | inr o ↦ (let bj : j < length done = omega arith in
            let P : ℕ → Type 0 = λ u. reaches n edges u (get_or done i 0) ≡ true in
            let Q : ℕ → Type 0 = λ u. reaches n edges (get_or stack a 0) u ≡ true in
            let e2 : is_edge edges (get_or done j 0) (get_or (stack ++ x ∷ []) a 0) ≡ true =
            ap (λ z. is_edge edges (get_or done j 0) z) (at_old stack x a s) ∙ ap (λ z. is_edge edges z (get_or stack a 0)) (sym (at_old done x j bj)) ∙ e in
            subst Q (sym (at_old done x i o)) (subst P (at_old stack x a s) (was.up i j a l o (omega (arith, more_len stack x)) e2)))
      ];
    }

pub sum_less : (left : List ℕ) (x k : ℕ) → x < length left → get_or left x 0 ≡ k + 1 → sum (set left x k) + 1 ≡ sum left
sum_less left x k b q = (let h : sum (set left x k) + get_or left x 0 ≡ sum left + k = sum_by-set (λ v. v) left x k 0 b in omega arith)

step_case : (n : ℕ) (edges : List Edge) (row : ℕ → List ℕ) → AreRowsOf n edges row → (seen : List Bool) (left stack done : List ℕ) (x k : ℕ) (b : Bool)
    → Walks n edges row seen left (stack ++ x ∷ []) done → get_or left x 0 ≡ k + 1 → get_or seen (get_or (row x) k 0) false ≡ b
    → Walks n edges row (set seen (get_or (row x) k 0) true) (set left x k) (cond b (stack ++ x ∷ []) ((stack ++ x ∷ []) ++ get_or (row x) k 0 ∷ [])) done
step_case n edges row rows seen left stack done x k true was q s =
    let bx : x < n = omega (arith, was.seen_len, marked_below seen x (was.stack_seen x (more_right (λ z. z == x) stack x (eq-eqb x x refl)))) in
    let P : List Bool → Type 0 = λ m. Walks n edges row m (set left x k) (stack ++ x ∷ []) done in
    subst P (mark_again seen (get_or (row x) k 0) s) (walk_pass n edges row rows seen left (stack ++ x ∷ []) done was x k bx q s)
step_case n edges row rows seen left stack done x k false was q s =
    let bx : x < n = omega (arith, was.seen_len, marked_below seen x (was.stack_seen x (more_right (λ z. z == x) stack x (eq-eqb x x refl)))) in
    let y : ℕ = get_or (row x) k 0 in
    let kb : k < length (row x) = omega (arith, was.fits x bx, q) in
    let p : (is_edge edges x y ≡ true) × (nat_lt y n ≡ true) = and_parts (is_edge edges x y) (nat_lt y n) (sym (rows.row_is x bx y) ∙ at_in (row x) k kb) in
    let by : y < n = ltb-true y n p.1 in
    let top : length stack < length (stack ++ x ∷ []) = omega (arith, more_len stack x) in
    walk_pass n edges row rows (set seen y true) left ((stack ++ x ∷ []) ++ y ∷ []) done
    (walk_push n edges row rows seen left (stack ++ x ∷ []) done was y by s
    (λ i l. reaches_on n edges (get_or (stack ++ x ∷ []) i 0) x y
    (let Q : ℕ → Type 0 = λ u. reaches n edges (get_or (stack ++ x ∷ []) i 0) u ≡ true in
    subst Q (at_new stack x) (was.path i (length stack) (omega (arith, more_len stack x)) top)) p.0 by))
    x k bx q (mark_lands seen y (omega (arith, was.seen_len)))

pub walk_step : (n : ℕ) (edges : List Edge) (row : ℕ → List ℕ) (seen seen2 : List Bool) (left left2 stack stack2 done : List ℕ) (x k : ℕ)
    → AreRowsOf n edges row → Walks n edges row seen left (stack ++ x ∷ []) done → get_or left x 0 ≡ k + 1
    → seen2 ≡ set seen (get_or (row x) k 0) true → left2 ≡ set left x k
    → stack2 ≡ cond (get_or seen (get_or (row x) k 0) false) (stack ++ x ∷ []) ((stack ++ x ∷ []) ++ get_or (row x) k 0 ∷ [])
    → Walks n edges row seen2 left2 stack2 done
walk_step n edges row seen seen2 left left2 stack stack2 done x k rows was q s l t =
    let P : List Bool → Type 0 = λ m. Walks n edges row m left2 stack2 done in
    let Q : List ℕ → Type 0 = λ m. Walks n edges row (set seen (get_or (row x) k 0) true) m stack2 done in
    let R : List ℕ → Type 0 = λ m. Walks n edges row (set seen (get_or (row x) k 0) true) (set left x k) m done in
    subst P (sym s) (subst Q (sym l) (subst R (sym t)
    (step_case n edges row rows seen left stack done x k (get_or seen (get_or (row x) k 0) false) was q refl)))

pub walk_finish : (n : ℕ) (edges : List Edge) (row : ℕ → List ℕ) (seen : List Bool) (left stack done done2 : List ℕ) (x : ℕ)
    → Walks n edges row seen left (stack ++ x ∷ []) done → get_or left x 0 ≡ 0 → done2 ≡ done ++ x ∷ [] → Walks n edges row seen left stack done2
walk_finish n edges row seen left stack done done2 x was none e =
    let P : List ℕ → Type 0 = λ d. Walks n edges row seen left stack d in subst P (sym e) (walk_done n edges row seen left stack done x was none)

pub walk_below : (n : ℕ) (edges : List Edge) (row : ℕ → List ℕ) (seen : List Bool) (left stack done : List ℕ) (x : ℕ)
    → Walks n edges row seen left (stack ++ x ∷ []) done → x < n
walk_below n edges row seen left stack done x was =
    omega (arith, was.seen_len, marked_below seen x (was.stack_seen x (more_right (λ z. z == x) stack x (eq-eqb x x refl))))

pub rows_of : (n : ℕ) (edges : List Edge) (starts counts targets : List ℕ) → AreRows n edges starts counts targets
    → AreRowsOf n edges (row_at starts counts targets)
rows_of n edges starts counts targets rows = record { row_is = λ x b y. (row_is n edges starts counts targets rows x b (row_at starts counts targets x) refl).targets y }

pub mark_same : (seen seen2 : List Bool) (y z : ℕ) → seen2 ≡ set seen y true → get_or seen z false ≡ true → get_or seen2 z false ≡ true
mark_same seen seen2 y z q h = ap (λ s. get_or s z false) q ∙ mark_stays seen y z h

pub walk_next : (n : ℕ) (edges : List Edge) (row : ℕ → List ℕ) (seen seen2 : List Bool) (left left2 stack mid stack2 done there : List ℕ) (x k y : ℕ)
    → AreRowsOf n edges row → Walks n edges row seen left (stack ++ x ∷ []) done → get_or left x 0 ≡ k + 1
    → there ≡ row x → y ≡ get_or there k 0 → mid ≡ stack ++ x ∷ []
    → seen2 ≡ set seen y true → left2 ≡ set left x k → stack2 ≡ cond (get_or seen y false) mid (mid ++ y ∷ [])
    → Walks n edges row seen2 left2 stack2 done
walk_next n edges row seen seen2 left left2 stack mid stack2 done there x k y rows was q th e m s l t =
    let f : y ≡ get_or (row x) k 0 = e ∙ ap (λ r. get_or r k 0) th in
    walk_step n edges row seen seen2 left left2 stack stack2 done x k rows was q
    (s ∙ ap (λ z. set seen z true) f) l
    (t ∙ ap (λ d. cond (get_or seen y false) d (d ++ y ∷ [])) m
    ∙ ap (λ z. cond (get_or seen z false) (stack ++ x ∷ []) ((stack ++ x ∷ []) ++ z ∷ [])) f)

-- a walk begins, and comes to a node on an empty path
pub trues_none : (n x : ℕ) → get_or (replicate n false) x false ≡ true → ⊥
trues_none zero x h = (let f : false ≡ true = h in cc)
trues_none (suc n) zero h = (let f : false ≡ true = h in cc)
trues_none (suc n) (suc x) h = trues_none n x h

unmarked_falses : (n : ℕ) → unmarked (replicate n false) ≡ n
unmarked_falses zero = refl
unmarked_falses (suc n) =
    let e : unmarked (replicate (suc n) false) ≡ 1 + unmarked (replicate n false) = sum_by-append (λ m. cond m 0 1) (false ∷ []) (replicate n false) in
    omega (arith, unmarked_falses n)

pub walk_start : (n : ℕ) (edges : List Edge) (starts counts targets : List ℕ) (seen : List Bool) (left stack done : List ℕ) → AreRows n edges starts counts targets
    → seen ≡ replicate n false → left ≡ counts → stack ≡ [] → done ≡ [] → Walks n edges (row_at starts counts targets) seen left stack done
walk_start n edges starts counts targets seen left stack done rows s l t d =
    let none : (x : ℕ) → get_or seen x false ≡ true → ⊥ = λ x h. trues_none n x (sym (ap (λ m. get_or m x false) s) ∙ h) in
    let tl : length stack ≡ 0 = ap length t in
    let dl : length done ≡ 0 = ap length d in
    let row_len : (x : ℕ) → x < n → length (row_at starts counts targets x) ≡ get_or left x 0 = λ x b.
    component_len n edges starts counts targets rows x b ∙ sym (ap (λ z. get_or z x 0) l) in
    record {
      seen_len = ap length s ∙ length-replicate n false;
      left_len = ap length l ∙ rows.counts_len;
      count = omega (arith, ap unmarked s, unmarked_falses n);
      stack_seen = λ x h. (let f : false ≡ true = sym (ap (λ z. is_in z x) t) ∙ h in cc);
      placed = λ x h. absurd (none x h);
      passed = λ x k b m p. absurd (omega (arith, row_len x b));
      fits = λ x b. omega (arith, row_len x b);
      finished = λ x h. (let f : false ≡ true = sym (ap (λ z. is_in z x) d) ∙ h in cc);
      path = λ i j m b. absurd (omega arith);
      back = λ i j k m p b e. absurd (omega arith);
      up = λ i j a m b c e. absurd (omega arith);
    }

enter_case : (n : ℕ) (edges : List Edge) (row : ℕ → List ℕ) → AreRowsOf n edges row → (seen : List Bool) (left stack done : List ℕ) (r : ℕ) (b : Bool)
    → Walks n edges row seen left stack done → r < n → stack ≡ [] → get_or seen r false ≡ b
    → Walks n edges row (set seen r true) left (cond b stack (stack ++ r ∷ [])) done
enter_case n edges row rows seen left stack done r true was b t s =
    let P : List Bool → Type 0 = λ m. Walks n edges row m left stack done in subst P (mark_again seen r s) was
enter_case n edges row rows seen left stack done r false was b t s =
    let tl : length stack ≡ 0 = ap length t in
    walk_push n edges row rows seen left stack done was r b s (λ i l. absurd (omega arith))

pub walk_enter : (n : ℕ) (edges : List Edge) (row : ℕ → List ℕ) (seen seen2 : List Bool) (left stack stack2 done : List ℕ) (r : ℕ)
    → AreRowsOf n edges row → Walks n edges row seen left stack done → r < n → stack ≡ []
    → seen2 ≡ set seen r true → stack2 ≡ cond (get_or seen r false) stack (stack ++ r ∷ []) → Walks n edges row seen2 left stack2 done
walk_enter n edges row seen seen2 left stack stack2 done r rows was b t s q =
    let P : List Bool → Type 0 = λ m. Walks n edges row m left stack2 done in
    let Q : List ℕ → Type 0 = λ m. Walks n edges row (set seen r true) left m done in
    subst P (sym s) (subst Q (sym q) (enter_case n edges row rows seen left stack done r (get_or seen r false) was b t refl))

pub walk_popped : (n : ℕ) (edges : List Edge) (row : ℕ → List ℕ) (seen : List Bool) (left all stack done : List ℕ) (x : ℕ)
    → Walks n edges row seen left all done → all ≡ stack ++ x ∷ [] → Walks n edges row seen left (stack ++ x ∷ []) done
walk_popped n edges row seen left all stack done x was q =
    let P : List ℕ → Type 0 = λ m. Walks n edges row seen left m done in subst P q was

pub enter_seen : (seen seen2 : List Bool) (r : ℕ) → r < length seen → seen2 ≡ set seen r true → get_or seen2 r false ≡ true
enter_seen seen seen2 r b q = ap (λ s. get_or s r false) q ∙ mark_lands seen r b

-- where all is seen and the path is empty, the walk is done with all
all_unmarked : (seen : List Bool) → ((x : ℕ) → x < length seen → get_or seen x false ≡ true) → unmarked seen ≡ 0
all_unmarked [] h = refl
all_unmarked (s ∷ seen) h =
    let e : unmarked (s ∷ seen) ≡ 0 + cond {A = ℕ} s 0 1 + unmarked seen = sum_by-append (λ m. cond m 0 1) (s ∷ []) seen in
    let c : cond {A = ℕ} s 0 1 ≡ 0 = ap (λ m. cond {A = ℕ} m 0 1) (h 0 (omega arith)) in
    omega (arith, all_unmarked seen (λ x b. h (suc x) (omega (arith, b))))

pub walk_end : (n : ℕ) (edges : List Edge) (row : ℕ → List ℕ) (seen : List Bool) (left stack done : List ℕ)
    → Walks n edges row seen left stack done → stack ≡ [] → ((x : ℕ) → x < n → get_or seen x false ≡ true) → IsDepthOrder n edges done
walk_end n edges row seen left stack done was t all =
    let tl : length stack ≡ 0 = ap length t in
    record {
      len = omega (arith, was.count, all_unmarked seen (λ x b. all x (omega (arith, was.seen_len))));
      each = λ x b. elim (was.placed x (all x b)) [
        | inl s ↦ (let f : false ≡ true = sym (ap (λ z. is_in z x) t) ∙ s in cc)
        | inr d ↦ d
      ];
      below = λ k b. (was.finished (get_or done k 0) (at_in done k b)).0;
      back = was.back;
    }

-- each target stands before, or leads back
pub order_behind : (n : ℕ) (edges : List Edge) (order : List ℕ) → IsDepthOrder n edges order → (j y : ℕ) → j < n → y < n
    → is_edge edges (get_or order j 0) y ≡ true → (is_in (take j order) y ≡ true) ⊎ (reaches n edges y (get_or order j 0) ≡ true)
order_behind n edges order is j y bj by e =
    let w : (k : ℕ) × (k < length order) × (get_or order k 0 ≡ y) = in_gives order y (is.each y by) in
    elim (cases_lt w.0 j) [
      | inl l ↦ inl (let lt : w.0 < length (take j order) = omega (arith, is.len, w.1, length-take-le j order (omega (arith, is.len))) in
          let P : ℕ → Type 0 = λ z. is_in (take j order) z ≡ true in
          subst P (get_or-take j order w.0 0 l ∙ w.2) (at_in (take j order) w.0 lt))
      | inr g ↦ inr (let P : ℕ → Type 0 = λ z. reaches n edges z (get_or order j 0) ≡ true in
          subst P w.2 (is.back j j w.0 (omega arith) g w.1 (ap (λ z. is_edge edges (get_or order j 0) z) w.2 ∙ e)))
    ]

pub walks_at : (m n : ℕ) (edges : List Edge) (row : ℕ → List ℕ) (seen : List Bool) (left stack done : List ℕ)
    → Walks m edges row seen left stack done → m ≡ n → Walks n edges row seen left stack done
walks_at m n edges row seen left stack done was q =
    let P : ℕ → Type 0 = λ z. Walks z edges row seen left stack done in subst P q was

pub seen_more : (seen : List Bool) (r : ℕ) → ((z : ℕ) → z < r → get_or seen z false ≡ true) → get_or seen r false ≡ true
    → (z : ℕ) → z < r + 1 → get_or seen z false ≡ true
seen_more seen r was h z l =
    let le : z ≤ r = omega arith in
    elim (eq-or-lt_of_le le) [ inl e ↦ ap (λ k. get_or seen k false) e ∙ h | inr b ↦ was z b ]

pub walk_measure : (n : ℕ) (edges : List Edge) (row : ℕ → List ℕ) (seen seen2 : List Bool) (left left2 stack stack2 done done2 : List ℕ)
    → Walks n edges row seen left stack done → Walks n edges row seen2 left2 stack2 done2
    → sum left2 + length done + 1 ≡ sum left + length done2 → sum left2 + (n - length done2) < sum left + (n - length done)
walk_measure n edges row seen seen2 left left2 stack stack2 done done2 was now h = omega (arith, was.count, now.count)
