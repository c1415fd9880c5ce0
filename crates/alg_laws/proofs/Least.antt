-- The least set is closed under its rules, and within each closed set.
use Rattle.std.specs.Prelude.{◌≡◌, ℕ, zero, suc, ◌+◌, ◌<◌, ◌≤◌, ◌⊎◌, Bool, true, false}
use Rattle.std.proofs.Common.{refl, sym, ◌∙◌, arith, inl, inr, subst}
use Rattle.std.proofs.Math.Nat.{eq-or-lt_of_le}
use Rattle.alg_laws.specs.Least.{table, listed, after_steps, least, Within, IsMonotone, LeastSets}

listed-table : (n : ℕ) (f : ℕ → Bool) (x : ℕ) → x < n → listed (table n f) x ≡ f x
listed-table zero f x h = absurd (omega (arith, h))
listed-table (suc n) f zero h = refl
listed-table (suc n) f (suc x) h = listed-table n (λ y. f (suc y)) x (omega (arith, h))

-- how many of the numbers below n a set has
abbrev one_if : Bool → ℕ
one_if true = 1
one_if false = 0

abbrev count : ℕ → (ℕ → Bool) → ℕ
count zero f = 0
count (suc n) f = count n f + one_if (f n)

-- what holds below n and at n holds below n + 1
by_last : (n : ℕ) (P : ℕ → Type 0) → ((x : ℕ) → x < n → P x) → P n → (x : ℕ) → (x ≡ n) ⊎ (x < n) → P x
by_last n P h k x (inl e) = subst P (sym e) k
by_last n P h k x (inr b) = h x b

with_last : (n : ℕ) (P : ℕ → Type 0) → ((x : ℕ) → x < n → P x) → P n → (x : ℕ) → x < suc n → P x
with_last n P h k x b = by_last n P h k x (let le : x ≤ n = omega (arith, b) in eq-or-lt_of_le le)

one_if_most : (b : Bool) → one_if b ≤ 1
one_if_most true = omega arith
one_if_most false = omega arith

count_most : (n : ℕ) (f : ℕ → Bool) → count n f ≤ n
count_most zero f = omega arith
count_most (suc n) f = omega (arith, count_most n f, one_if_most (f n))

-- a set that has as many as there are has each
full_last : (n : ℕ) (c : ℕ) (b : Bool) → c ≤ n → suc n ≤ c + one_if b → (n ≤ c) × (b ≡ true)
full_last n c true h k = (omega (arith, k), refl)
full_last n c false h k = absurd (omega (arith, h, k))

full : (n : ℕ) (f : ℕ → Bool) → n ≤ count n f → (x : ℕ) → x < n → f x ≡ true
full zero f h x b = absurd (omega (arith, b))
full (suc n) f h x b =
    let last = full_last n (count n f) (f n) (count_most n f) h in
    with_last n (λ y. f y ≡ true) (full n f last.0) last.1 x b

-- of a set and a larger one, either they are the same or the larger one has more
grows_last : (c d : ℕ) (a b : Bool) → (a ≡ true → b ≡ true) → c + 1 ≤ d → c + one_if a + 1 ≤ d + one_if b
grows_last c d true true h k = omega (arith, k)
grows_last c d true false h k = (let e : false ≡ true = h refl in cc)
grows_last c d false true h k = omega (arith, k)
grows_last c d false false h k = omega (arith, k)

mono_last : (c d : ℕ) (a b : Bool) → (a ≡ true → b ≡ true) → c ≤ d → c + one_if a ≤ d + one_if b
mono_last c d true true h k = omega (arith, k)
mono_last c d true false h k = (let e : false ≡ true = h refl in cc)
mono_last c d false true h k = omega (arith, k)
mono_last c d false false h k = omega (arith, k)

count_mono : (n : ℕ) (f g : ℕ → Bool) → Within n f g → count n f ≤ count n g
count_mono zero f g h = omega arith
count_mono (suc n) f g h =
    mono_last (count n f) (count n g) (f n) (g n) (h n (omega arith)) (count_mono n f g (λ x b. h x (omega (arith, b))))

same_or_more_last : (n : ℕ) (f g : ℕ → Bool) (a b : Bool) → f n ≡ a → g n ≡ b → (a ≡ true → b ≡ true) → count n f ≤ count n g
    → Within n g f → Within (suc n) g f ⊎ (count n f + one_if a + 1 ≤ count n g + one_if b)
same_or_more_last n f g true b p q h le w = inl (with_last n (λ x. g x ≡ true → f x ≡ true) w (λ _. p))
same_or_more_last n f g false true p q h le w = inr (omega (arith, le))
same_or_more_last n f g false false p q h le w =
    inl (with_last n (λ x. g x ≡ true → f x ≡ true) w (λ e. (let e2 : false ≡ true = sym q ∙ e in cc)))

same_or_more_step : (n : ℕ) (f g : ℕ → Bool) → Within n f g → (f n ≡ true → g n ≡ true)
    → Within n g f ⊎ (count n f + 1 ≤ count n g) → Within (suc n) g f ⊎ (count (suc n) f + 1 ≤ count (suc n) g)
same_or_more_step n f g below last (inl w) =
    same_or_more_last n f g (f n) (g n) refl refl last (count_mono n f g below) w
same_or_more_step n f g below last (inr m) = inr (grows_last (count n f) (count n g) (f n) (g n) last m)

same_or_more : (n : ℕ) (f g : ℕ → Bool) → Within n f g → Within n g f ⊎ (count n f + 1 ≤ count n g)
same_or_more zero f g h = inl (λ x b. absurd (omega (arith, b)))
same_or_more (suc n) f g h =
    let below : Within n f g = λ x b. h x (omega (arith, b)) in
    let last : f n ≡ true → g n ≡ true = h n (omega arith) in
    same_or_more_step n f g below last (same_or_more n f g below)

-- the sets after k steps and after k + 1
module _ (n : ℕ) (step : (ℕ → Bool) → ℕ → Bool) (monotone : IsMonotone n step) where
  abbrev after : ℕ → ℕ → Bool
  after k = listed (after_steps n step k)

  next : (k x : ℕ) → x < n → after (suc k) x ≡ step (after k) x
  next k x b = listed-table n (step (after k)) x b

  larger : (k : ℕ) → Within n (after k) (after (suc k))
  larger zero x b h = (let e : false ≡ true = h in cc)
  larger (suc k) x b h =
      next (suc k) x b ∙ monotone (after k) (after (suc k)) (larger k) x b (sym (next k x b) ∙ h)

  -- where a step adds nothing, neither does the next
  still : (k : ℕ) → Within n (after (suc k)) (after k) → Within n (after (suc (suc k))) (after (suc k))
  still k h x b e = next k x b ∙ monotone (after (suc k)) (after k) h x b (sym (next (suc k) x b) ∙ e)

  many_or_still_step : (k : ℕ) → (k ≤ count n (after k)) ⊎ Within n (after (suc k)) (after k)
      → Within n (after (suc k)) (after k) ⊎ (count n (after k) + 1 ≤ count n (after (suc k)))
      → (suc k ≤ count n (after (suc k))) ⊎ Within n (after (suc (suc k))) (after (suc k))
  many_or_still_step k (inr w) m = inr (still k w)
  many_or_still_step k (inl c) (inl w) = inr (still k w)
  many_or_still_step k (inl c) (inr m) = inl (omega (arith, c, m))

  many_or_still : (k : ℕ) → (k ≤ count n (after k)) ⊎ Within n (after (suc k)) (after k)
  many_or_still zero = inl (omega arith)
  many_or_still (suc k) = many_or_still_step k (many_or_still k) (same_or_more n (after k) (after (suc k)) (larger k))

  nothing_new : (n ≤ count n (after n)) ⊎ Within n (after (suc n)) (after n) → Within n (after (suc n)) (after n)
  nothing_new (inl c) x b e = full n (after n) c x b
  nothing_new (inr w) x b e = w x b e

  pub least_closed : Within n (step (least n step)) (least n step)
  least_closed x b e = nothing_new (many_or_still n) x b (next n x b ∙ e)

  after_within : (set : ℕ → Bool) → Within n (step set) set → (k : ℕ) → Within n (after k) set
  after_within set h zero x b e = (let f : false ≡ true = e in cc)
  after_within set h (suc k) x b e =
      h x b (monotone (after k) set (after_within set h k) x b (sym (next k x b) ∙ e))

  pub least_within : (set : ℕ → Bool) → Within n (step set) set → Within n (least n step) set
  least_within set h = after_within set h n

pub least_sets : LeastSets
least_sets = record { closed = least_closed; within_closed = least_within }
