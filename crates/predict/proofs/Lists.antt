-- Lists with a test on each element.
use Rattle.std.specs.Prelude.{ℕ, ◌≡◌, ◌+◌, suc, zero, Bool, true, false, not, ◌&&◌, ◌||◌, if◌then◌else◌, nat_eq, List, [], ◌∷◌, ◌++◌, Some, refl, slice_get, get_or}
use Rattle.std.specs.List.{list_all}
use Rattle.std.proofs.Common.{ap, subst, ◌∙◌, inl, inr, ◌⊎◌, arith, eqb-true, eq-eqb}
use Rattle.std.proofs.lemmas.Bool.{and_parts, or_cases}
use Rattle.predict.specs.Table.{is_among, kinds_at}

pub implied : (a b : Bool) → (not a || b) ≡ true → a ≡ true → b ≡ true
implied true b h e = h
implied false b h e = cc

pub or_first : (a b : Bool) → a ≡ true → (a || b) ≡ true
or_first true b e = refl
or_first false b e = cc

pub or_second : (a b : Bool) → b ≡ true → (a || b) ≡ true
or_second true b e = refl
or_second false b e = e

-- what all elements pass, the one at a place does
pub passes_at : {X : Type 0} (test : X → Bool) (xs : List X) (i : ℕ) (x : X) → list_all test xs ≡ true → slice_get xs i ≡ Some x → test x ≡ true
passes_at test [] i x h e = cc
passes_at test (y ∷ xs) zero x h e = let same : y ≡ x = cc in subst (λ v. test v ≡ true) same (and_parts (test y) (list_all test xs) h).0
passes_at test (y ∷ xs) (suc i) x h e = passes_at test xs i x (and_parts (test y) (list_all test xs) h).1 e

-- a test on each element and its place
abbrev pub at_each : {X : Type 0} → (ℕ → X → Bool) → ℕ → List X → Bool
at_each test from [] = true
at_each test from (x ∷ xs) = test from x && at_each test (suc from) xs

pub each_told : {X : Type 0} (test : ℕ → X → Bool) (from : ℕ) (xs : List X) (i n : ℕ) (x : X) → at_each test from xs ≡ true → slice_get xs i ≡ Some x → from + i ≡ n → test n x ≡ true
each_told test from [] i n x h e s = cc
each_told test from (y ∷ xs) zero n x h e s =
    let same : y ≡ x = cc in
    let here : from ≡ n = omega (arith, s) in
    subst (λ m. test m x ≡ true) here (subst (λ v. test from v ≡ true) same (and_parts (test from y) (at_each test (suc from) xs) h).0)
each_told test from (y ∷ xs) (suc i) n x h e s = each_told test (suc from) xs i n x (and_parts (test from y) (at_each test (suc from) xs) h).1 e (omega (arith, s))

-- a kind of a list that passes
pub among_passes : (test : ℕ → Bool) (kinds : List ℕ) (k : ℕ) → list_all test kinds ≡ true → is_among kinds k ≡ true → test k ≡ true
among_passes test [] k h a = cc
among_passes test (j ∷ kinds) k h a =
    let each = and_parts (test j) (list_all test kinds) h in
    elim (or_cases (nat_eq k j) (is_among kinds k) a) [ inl e ↦ ap test (eqb-true k j e) ∙ each.0 | inr b ↦ among_passes test kinds k each.1 b ]

pub among_one : (k : ℕ) → is_among (k ∷ []) k ≡ true
among_one k = or_first (nat_eq k k) false (eq-eqb k k refl)

pub among_first : (xs ys : List ℕ) (k : ℕ) → is_among xs k ≡ true → is_among (xs ++ ys) k ≡ true
among_first [] ys k h = cc
among_first (x ∷ xs) ys k h = elim (or_cases (nat_eq k x) (is_among xs k) h) [ inl e ↦ or_first (nat_eq k x) (is_among (xs ++ ys) k) e | inr b ↦ or_second (nat_eq k x) (is_among (xs ++ ys) k) (among_first xs ys k b) ]

pub among_second : (xs ys : List ℕ) (k : ℕ) → is_among ys k ≡ true → is_among (xs ++ ys) k ≡ true
among_second [] ys k h = h
among_second (x ∷ xs) ys k h = or_second (nat_eq k x) (is_among (xs ++ ys) k) (among_second xs ys k h)

pub among_either : (xs ys : List ℕ) (k : ℕ) → is_among (xs ++ ys) k ≡ true → (is_among xs k ≡ true) ⊎ (is_among ys k ≡ true)
among_either [] ys k h = inr h
among_either (x ∷ xs) ys k h =
    elim (or_cases (nat_eq k x) (is_among (xs ++ ys) k) h) [
      | inl e ↦ inl (or_first (nat_eq k x) (is_among xs k) e)
      | inr b ↦ elim (among_either xs ys k b) [ inl c ↦ inl (or_second (nat_eq k x) (is_among xs k) c) | inr c ↦ inr c ]
    ]

pub if_there : (b : Bool) (xs : List ℕ) (k : ℕ) → b ≡ true → is_among xs k ≡ true → is_among (if b then xs else []) k ≡ true
if_there true xs k e h = h
if_there false xs k e h = cc

pub if_told : (b : Bool) (xs : List ℕ) (k : ℕ) → is_among (if b then xs else []) k ≡ true → (b ≡ true) × (is_among xs k ≡ true)
if_told true xs k h = (refl, h)
if_told false xs k h = cc

-- a list that holds a kind stands in the lists
pub listed_at : (lists : List (List ℕ)) (i k : ℕ) → is_among (kinds_at lists i) k ≡ true → slice_get lists i ≡ Some (kinds_at lists i)
listed_at [] i k h = cc
listed_at (xs ∷ lists) zero k h = refl
listed_at (xs ∷ lists) (suc i) k h = listed_at lists i k h

pub true_at : (flags : List Bool) (i : ℕ) → get_or flags i false ≡ true → slice_get flags i ≡ Some true
true_at [] i h = cc
true_at (b ∷ flags) zero h = ap (λ v. Some v) h
true_at (b ∷ flags) (suc i) h = true_at flags i h
