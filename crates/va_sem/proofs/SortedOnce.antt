-- A stable sort by tokens gives the order of the text.
use Rattle.std.specs.Prelude.{◌≡◌, ◌<◌, ◌≤◌, ◌==◌, ◌&&◌, ◌⊎◌, nat_lt, nat_le, not, ℕ, suc, Bool, true, false, List, [], ◌∷◌, filter, length, get_or, if◌then◌else◌}
use Rattle.std.specs.Ordering.{nat_cmp, is_lt}
use Rattle.std.specs.List.Sorted.{IsNonDecreasingBy, IsSortedByKey, IsStableByKey, ties}
use Rattle.std.specs.declared.cmp.Ordering.TheVariants.{Less, Equal, Greater}
use Rattle.std.proofs.Common.{refl, ap, sym, ◌∙◌, arith, inl, inr}
use Rattle.std.proofs.lemmas.Bool.{ltb-true, lt-ltb, cases_lt, le-leb, false≢true}
use Rattle.std.proofs.lemmas.List.Sorted.{IsNonDecreasingBy-from_sort}
use Rattle.va_sem.specs.TextOrder.{put_in, in_text_order}
use Rattle.va_sem.proofs.Ascending.{From, Ascends, ascends}

-- whether two numbers are one, by the order
abbrev ties_at : ℕ → ℕ → Bool
ties_at a b = not (nat_lt a b) && not (nat_lt b a)

not_less : (a b : ℕ) → b ≤ a → nat_lt a b ≡ false
not_less a b h = by (nat_lt a b) refl
  where
    by : (c : Bool) → nat_lt a b ≡ c → nat_lt a b ≡ false
    by true e = absurd (let l : a < b = ltb-true a b e in let n : ⊥ = omega (arith, l, h) in n)
    by false e = e

ties_itself : (a : ℕ) → ties_at a a ≡ true
ties_itself a = (let e : nat_lt a a ≡ false = not_less a a (omega arith) in λ j. not (e j) && not (e j))

below_no_tie : (a b : ℕ) → a < b → ties_at a b ≡ false
below_no_tie a b h = (let e : nat_lt a b ≡ true = lt-ltb a b h in λ j. not (e j) && not (nat_lt b a))

above_no_tie : (a b : ℕ) → b < a → ties_at a b ≡ false
above_no_tie a b h =
    let e : nat_lt a b ≡ false = not_less a b (let l : b ≤ a = omega (arith, h) in l) in
    let f : nat_lt b a ≡ true = lt-ltb b a h in
    λ j. not (e j) && not (f j)

tie_is : (a b : ℕ) → ties_at a b ≡ true → a ≡ b
tie_is a b h = by (cases_lt a b) (cases_lt b a)
  where
    by : (a < b) ⊎ (b ≤ a) → (b < a) ⊎ (a ≤ b) → a ≡ b
    by (inl less) k = absurd (false≢true (sym (below_no_tie a b less) ∙ h))
    by (inr l) (inl less) = absurd (false≢true (sym (above_no_tie a b less) ∙ h))
    by (inr l) (inr m) = omega (arith, l, m)

less_is : (p q : Bool) → is_lt (if p then Less else (if q then Equal else Greater)) ≡ p
less_is true q = refl
less_is false true = refl
less_is false false = refl

module _ {X : Type 0} (n : X → ℕ) where
  -- those at a token
  abbrev at_token : ℕ → List X → List X
  at_token a xs = filter (λ y. ties_at a (n y)) xs

  abbrev SameAtEach : List X → List X → Type 0
  SameAtEach xs ys = (x : X) → at_token (n x) xs ≡ at_token (n x) ys

  -- none of a list above a token stands at it
  none_at : (a : ℕ) (xs : List X) → From n a xs → (b : ℕ) → b < a → at_token b xs ≡ []
  none_at a [] h b less = refl
  none_at a (x ∷ xs) h b less =
      (let e : ties_at b (n x) ≡ false = below_no_tie b (n x) (omega (arith, less, h.0)) in rw e (none_at a xs h.1 b less))

  first_at : (x : X) (xs : List X) → at_token (n x) (x ∷ xs) ≡ x ∷ at_token (n x) xs
  first_at x xs = (let e : ties_at (n x) (n x) ≡ true = ties_itself (n x) in rw e refl)

  no_cons : {Y : Type 0} (y : Y) (ys : List Y) → y ∷ ys ≡ [] → ⊥
  no_cons y ys e = cc (e)

  same_first : {Y : Type 0} (y z : Y) (ys zs : List Y) → y ∷ ys ≡ z ∷ zs → y ≡ z
  same_first y z ys zs e = cc (e)

  same_rest : {Y : Type 0} (y z : Y) (ys zs : List Y) → y ∷ ys ≡ z ∷ zs → ys ≡ zs
  same_rest y z ys zs e = cc (e)

  not_lower : (y z : X) (ys zs : List X) → From n (n z) zs → SameAtEach (y ∷ ys) (z ∷ zs) → n y < n z → ⊥
  not_lower y z ys zs h same less =
      no_cons y (at_token (n y) ys) (sym (first_at y ys) ∙ same y ∙ none_at (n z) (z ∷ zs) (let r : n z ≤ n z = omega arith in (r, h)) (n y) less)

  same_key : (y z : X) (ys zs : List X) → From n (n y) ys → From n (n z) zs → SameAtEach (y ∷ ys) (z ∷ zs) → (n y < n z) ⊎ (n z ≤ n y) → (n z < n y) ⊎ (n y ≤ n z) → n y ≡ n z
  same_key y z ys zs g h same (inl less) k = absurd (not_lower y z ys zs h same less)
  same_key y z ys zs g h same (inr l) (inl less) = absurd (not_lower z y zs ys g (λ x. sym (same x)) less)
  same_key y z ys zs g h same (inr l) (inr m) = omega (arith, l, m)

  rest_at : (y : X) (ys zs : List X) (x : X) (b : Bool) → (if b then y ∷ at_token (n x) ys else at_token (n x) ys) ≡ (if b then y ∷ at_token (n x) zs else at_token (n x) zs)
      → at_token (n x) ys ≡ at_token (n x) zs
  rest_at y ys zs x true e = same_rest y y (at_token (n x) ys) (at_token (n x) zs) e
  rest_at y ys zs x false e = e

  -- ascending lists with the same at each token are one
  same_list : (ys zs : List X) → Ascends n ys → Ascends n zs → SameAtEach ys zs → ys ≡ zs
  same_list [] [] g h same = refl
  same_list [] (z ∷ zs) g h same = absurd (no_cons z (at_token (n z) zs) (sym (first_at z zs) ∙ sym (same z)))
  same_list (y ∷ ys) [] g h same = absurd (no_cons y (at_token (n y) ys) (sym (first_at y ys) ∙ same y))
  same_list (y ∷ ys) (z ∷ zs) g h same =
      let key : n y ≡ n z = same_key y z ys zs g.0 h.0 same (cases_lt (n y) (n z)) (cases_lt (n z) (n y)) in
      let here : y ∷ at_token (n y) ys ≡ z ∷ at_token (n z) zs =
      sym (first_at y ys) ∙ same y ∙ ap (λ a. at_token a (z ∷ zs)) key ∙ first_at z zs in
      let first : y ≡ z = same_first y z (at_token (n y) ys) (at_token (n z) zs) here in
      let rest : SameAtEach ys zs = λ x. rest_at y ys zs x (ties_at (n x) (n y)) (same x ∙ ap (λ (w : X). at_token (n x) (w ∷ zs)) (sym first)) in
      λ j. first j ∷ same_list ys zs g.1 h.1 rest j

  -- what is put in place keeps its order among those at its token
  put_past : (x z : X) (rest : List X) (a b : Bool) → (a ≡ true → b ≡ true → ⊥)
      → (if b then z ∷ (if a then x ∷ rest else rest) else (if a then x ∷ rest else rest)) ≡ (if a then x ∷ (if b then z ∷ rest else rest) else (if b then z ∷ rest else rest))
  put_past x z rest true true h = absurd (h refl refl)
  put_past x z rest true false h = refl
  put_past x z rest false true h = refl
  put_past x z rest false false h = refl

  not_both : (k : ℕ) (x z : X) → nat_le (n x) (n z) ≡ false → ties_at k (n x) ≡ true → ties_at k (n z) ≡ true → ⊥
  not_both k x z q a b = (let e : n x ≡ n z = sym (tie_is k (n x) a) ∙ tie_is k (n z) b in false≢true (sym q ∙ nat_le_same e))
    where
      nat_le_same : n x ≡ n z → nat_le (n x) (n z) ≡ true
      nat_le_same e = le-leb (n x) (n z) (omega (arith, e))

  put_chosen : (k : ℕ) (x z : X) (rest : List X) (t : Bool) → nat_le (n x) (n z) ≡ t → at_token k (put_in n x rest) ≡ at_token k (x ∷ rest)
      → at_token k (if t then x ∷ z ∷ rest else z ∷ put_in n x rest) ≡ at_token k (x ∷ z ∷ rest)
  put_chosen k x z rest true q more = refl
  put_chosen k x z rest false q more =
      ap (λ (l : List X). if ties_at k (n z) then z ∷ l else l) more
      ∙ put_past x z (at_token k rest) (ties_at k (n x)) (ties_at k (n z)) (not_both k x z q)

  put_keeps : (k : ℕ) (x : X) (rest : List X) → at_token k (put_in n x rest) ≡ at_token k (x ∷ rest)
  put_keeps k x [] = refl
  put_keeps k x (z ∷ rest) = put_chosen k x z rest (nat_le (n x) (n z)) refl (put_keeps k x rest)

  order_keeps : (k : ℕ) (xs : List X) → at_token k (in_text_order n xs) ≡ at_token k xs
  order_keeps k [] = refl
  order_keeps k (x ∷ xs) =
      put_keeps k x (in_text_order n xs) ∙ ap (λ (l : List X). if ties_at k (n x) then x ∷ l else l) (order_keeps k xs)

  -- an ascending list, as std says it
  from_each : (b : ℕ) (xs : List X) → ((k : ℕ) (d : X) → k < length xs → b ≤ n (get_or xs k d)) → From n b xs
  from_each b [] h = tt
  from_each b (x ∷ xs) h = (h 0 x (omega arith), from_each b xs (λ k d within. h (suc k) d (omega (arith, within))))

  ascends_of : (xs : List X) → IsNonDecreasingBy n xs → Ascends n xs
  ascends_of [] h = tt
  ascends_of (x ∷ xs) h = (
    from_each (n x) xs (λ k d within. h 0 (suc k) d (omega arith) (omega (arith, within))),
    ascends_of xs (λ i j d o within. h (suc i) (suc j) d (omega (arith, o)) (omega (arith, within))),
  )

  tie_tells : (x y : X) → ties (λ x y. is_lt (nat_cmp (n x) (n y))) x y ≡ ties_at (n x) (n y)
  tie_tells x y =
      let e : is_lt (nat_cmp (n x) (n y)) ≡ nat_lt (n x) (n y) = less_is (nat_lt (n x) (n y)) (n x == n y) in
      let f : is_lt (nat_cmp (n y) (n x)) ≡ nat_lt (n y) (n x) = less_is (nat_lt (n y) (n x)) (n y == n x) in
      λ j. not (e j) && not (f j)

  pub sorted_is : (xs ys : List X) → IsSortedByKey n nat_cmp ys → IsStableByKey n nat_cmp xs ys → ys ≡ in_text_order n xs
  sorted_is xs ys up stable =
      same_list ys (in_text_order n xs) (ascends_of ys (IsNonDecreasingBy-from_sort n ys up)) (ascends n xs) (λ x.
      (λ j. filter (λ y. sym (tie_tells x y) j) ys) ∙ stable x ∙ (λ j. filter (λ y. tie_tells x y j) xs) ∙ sym (order_keeps (n x) xs))
