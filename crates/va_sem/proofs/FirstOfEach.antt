-- The first of each number in a list, one after another.
use Rattle.std.specs.Prelude.{◌≡◌, ◌≢◌, ◌⊎◌, ℕ, suc, ◌+◌, ◌<◌, ◌≤◌, ◌==◌, ◌||◌, ◌&&◌, not, cond, if◌then◌else◌, Bool, true, false, List, [], ◌∷◌, ◌++◌, filter, drop, length, get_or, map}
use Rattle.std.proofs.Common.{refl, sym, ◌∙◌, ap, subst, arith, inl, inr}
use Rattle.std.proofs.Math.ListN.{drop_of_length-le}
use Rattle.std.proofs.Math.Seq.{drop-cons}
use Rattle.std.proofs.lemmas.Bool.Decides.{eqb_tells}
use Rattle.std.proofs.lemmas.List.{append_assoc, append-nil}
use Rattle.std.proofs.lemmas.List.Folds.{list_any-append}
use Rattle.va_sem.specs.declared.findings.Given.{Given}
use Rattle.va_sem.specs.rules.Unknowns.{first_of_each}
use Rattle.va_sem.specs.rules.Findings.{is_among}

module _ {T : Type 0} where
  two_if : (f : T → Bool) (b : Bool) (x : T) (xs zs : List T) → filter f xs ≡ zs → filter f (cond b (x ∷ xs) xs) ≡ cond (b && f x) (x ∷ zs) zs
  two_if f true x xs zs h = (λ j. cond (f x) (x ∷ h j) (h j))
  two_if f false x xs zs h = h

  filter_two : (f g : T → Bool) (xs : List T) → filter f (filter g xs) ≡ filter (λ x. g x && f x) xs
  filter_two f g [] = refl
  filter_two f g (x ∷ xs) = two_if f (g x) x (filter g xs) (filter (λ y. g y && f y) xs) (filter_two f g xs)

  filter_same : (f g : T → Bool) → ((x : T) → f x ≡ g x) → (xs : List T) → filter f xs ≡ filter g xs
  filter_same f g h xs = (λ j. filter (λ x. h x j) xs)

every : {T : Type 0} (xs : List T) → xs ≡ filter (λ x. true) xs
every [] = refl
every (x ∷ xs) = ap (λ list. x ∷ list) (every xs)

module _ (P : ℕ → Bool) where
  -- those of a list that pass and are not among some numbers
  abbrev pub Left : List ℕ → List ℕ → List ℕ
  Left out bs = filter (λ b. not (is_among out b)) (filter P (first_of_each bs))

  -- the numbers after one more
  abbrev pub grown : List ℕ → ℕ → List ℕ
  grown out b = if P b && not (is_among out b) then out ++ b ∷ [] else out

  abbrev Told : ℕ → ℕ → Type 0
  Told x b = ((x == b) ≡ true) × (x ≡ b) ⊎ ((x == b) ≡ false) × (x ≢ b)

  -- where b doesn't pass, or is among the numbers, leaving it out changes nothing
  skipped : (out : List ℕ) (b x : ℕ) → P b && not (is_among out b) ≡ false → Told x b → P x && not (is_among out x) ≡ not (x == b) && (P x && not (is_among out x))
  skipped out b x h (inl e) = subst (λ (y : ℕ). P y && not (is_among out y) ≡ false) (sym e.1) h ∙ (λ j. not (sym e.0 j) && (P x && not (is_among out x)))
  skipped out b x h (inr e) = (λ j. not (sym e.0 j) && (P x && not (is_among out x)))

  and_swap : (a b c : Bool) → a && (b && c) ≡ b && (a && c)
  and_swap false true c = refl
  and_swap false false c = refl
  and_swap true b c = refl

  same_told : (b x : ℕ) → Told b x → Told x b → (b == x) ≡ (x == b)
  same_told b x (inl e) (inl f) = e.0 ∙ sym f.0
  same_told b x (inl e) (inr f) = absurd (f.1 (sym e.1))
  same_told b x (inr e) (inl f) = absurd (e.1 (sym f.1))
  same_told b x (inr e) (inr f) = e.0 ∙ sym f.0

  among_if : (p among same : Bool) → p && not (among || (same || false)) ≡ not same && (p && not among)
  among_if true true true = refl
  among_if true true false = refl
  among_if true false true = refl
  among_if true false false = refl
  among_if false true true = refl
  among_if false true false = refl
  among_if false false true = refl
  among_if false false false = refl

  added : (out : List ℕ) (b x : ℕ) → P x && not (is_among (out ++ b ∷ []) x) ≡ not (x == b) && (P x && not (is_among out x))
  added out b x =
      ap (λ c. P x && not c) (list_any-append (λ o. o == x) out (b ∷ []))
      ∙ (λ j. P x && not (is_among out x || (same_told b x (eqb_tells b x) (eqb_tells x b) j || false)))
      ∙ among_if (P x) (is_among out x) (x == b)

  left_as_one : (out bs : List ℕ) → Left out bs ≡ filter (λ x. P x && not (is_among out x)) (first_of_each bs)
  left_as_one out bs = filter_two (λ b. not (is_among out b)) P (first_of_each bs)

  rest_as_one : (out : List ℕ) (b : ℕ) (bs : List ℕ) → filter (λ x. P x && not (is_among out x)) (filter (λ m. not (m == b)) (first_of_each bs)) ≡ filter (λ x. not (x == b) && (P x && not (is_among out x))) (first_of_each bs)
  rest_as_one out b bs = filter_two (λ x. P x && not (is_among out x)) (λ m. not (m == b)) (first_of_each bs)

  grows_if : (out : List ℕ) (b : ℕ) (bs : List ℕ) (c : Bool) → P b && not (is_among out b) ≡ c
      → (if c then out ++ b ∷ [] else out) ++ Left (if c then out ++ b ∷ [] else out) bs ≡ out ++ cond c (b ∷ filter (λ x. P x && not (is_among out x)) (filter (λ m. not (m == b)) (first_of_each bs))) (filter (λ x. P x && not (is_among out x)) (filter (λ m. not (m == b)) (first_of_each bs)))
  grows_if out b bs true h =
      append_assoc out (b ∷ []) (Left (out ++ b ∷ []) bs)
      ∙ ap (λ list. out ++ b ∷ list) (left_as_one (out ++ b ∷ []) bs ∙ filter_same (λ x. P x && not (is_among (out ++ b ∷ []) x)) (λ x. not (x == b) && (P x && not (is_among out x))) (added out b) (first_of_each bs) ∙ sym (rest_as_one out b bs))
  grows_if out b bs false h =
      ap (λ list. out ++ list) (left_as_one out bs ∙ filter_same (λ x. P x && not (is_among out x)) (λ x. not (x == b) && (P x && not (is_among out x))) (λ x. skipped out b x h (eqb_tells x b)) (first_of_each bs) ∙ sym (rest_as_one out b bs))

  pub grows : (out : List ℕ) (b : ℕ) (bs : List ℕ) → grown out b ++ Left (grown out b) bs ≡ out ++ Left out (b ∷ bs)
  grows out b bs = grows_if out b bs (P b && not (is_among out b)) refl ∙ ap (λ list. out ++ list) (sym (left_as_one out (b ∷ bs)))

  -- What is left of some contributions from a place on, after those before it.
  abbrev pub FirstsOn : List Given → ℕ → List ℕ → Type 0
  FirstsOn givens i out = out ++ Left out (map (λ (g : Given). g.branch) (drop i givens)) ≡ filter P (first_of_each (map (λ (g : Given). g.branch) givens))

  pub firsts_next : (givens : List Given) (i : ℕ) (out new : List ℕ) (x d : Given) → i < length givens → x ≡ get_or givens i d → new ≡ grown out x.branch → FirstsOn givens i out → FirstsOn givens (i + 1) new
  firsts_next givens i out new x d lt is p on =
      let here : drop i givens ≡ x ∷ drop (suc i) givens = drop-cons givens i d lt ∙ ap (λ (y : Given). y ∷ drop (suc i) givens) (sym is) in
      let one : i + 1 ≡ suc i = omega arith in
      let rest : List ℕ = map (λ (g : Given). g.branch) (drop (suc i) givens) in
      ap (λ (n : ℕ). new ++ Left new (map (λ (g : Given). g.branch) (drop n givens))) one
      ∙ ap (λ list. list ++ Left list rest) p
      ∙ grows out x.branch rest
      ∙ ap (λ (list : List Given). out ++ Left out (map (λ (g : Given). g.branch) list)) (sym here)
      ∙ on

  pub firsts_end : (givens : List Given) (i : ℕ) (out : List ℕ) → length givens ≤ i → FirstsOn givens i out → out ≡ filter P (first_of_each (map (λ (g : Given). g.branch) givens))
  firsts_end givens i out h on = sym (append-nil out) ∙ ap (λ (list : List Given). out ++ Left out (map (λ (g : Given). g.branch) list)) (sym (drop_of_length-le givens h)) ∙ on

  pub firsts_start : (givens : List Given) → FirstsOn givens 0 []
  firsts_start givens = sym (every (filter P (first_of_each (map (λ (g : Given). g.branch) givens))))
