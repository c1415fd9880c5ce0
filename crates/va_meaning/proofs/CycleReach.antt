-- What is reached by calls, where none leads back: from a function that is called less is reached.
use Rattle.std.specs.Prelude.{◌≡◌, ◌⊎◌, ℕ, zero, suc, ◌+◌, ◌<◌, ◌≤◌, ◌==◌, ◌&&◌, ◌||◌, Bool, true, false, List, [], ◌∷◌}
use Rattle.std.specs.List.{list_any, AllByRecursion}
use Rattle.std.proofs.Common.{refl, sym, ◌∙◌, ap, arith, inl, inr}
use Rattle.std.proofs.Math.Nat.{eq-or-lt_of_le}
use Rattle.std.proofs.lemmas.Bool.{eqb-true}
use Rattle.std.proofs.lemmas.Bool.Decides.{eqb_tells}
use Rattle.alg_laws.specs.Least.{Within, IsMonotone}
use Rattle.alg_laws.proofs.Least.{least_closed, least_within}
use Rattle.va_sem.specs.NamesFaults.{CallEntry, reached}
use Rattle.va_sem.proofs.Contained.{Has}

-- how many of the numbers below n a set has
abbrev one_if : Bool → ℕ
one_if true = 1
one_if false = 0

abbrev pub count : ℕ → (ℕ → Bool) → ℕ
count zero f = 0
count (suc n) f = count n f + one_if (f n)

one_if_most : (b : Bool) → one_if b ≤ 1
one_if_most true = omega arith
one_if_most false = omega arith

pub count_most : (n : ℕ) (f : ℕ → Bool) → count n f ≤ n
count_most zero f = omega arith
count_most (suc n) f = omega (arith, count_most n f, one_if_most (f n))

mono_last : (c d : ℕ) (a b : Bool) → (a ≡ true → b ≡ true) → c ≤ d → c + one_if a ≤ d + one_if b
mono_last c d true true h k = omega (arith, k)
mono_last c d true false h k = (let e : false ≡ true = h refl in cc)
mono_last c d false true h k = omega (arith, k)
mono_last c d false false h k = omega (arith, k)

grows_last : (c d : ℕ) (a b : Bool) → (a ≡ true → b ≡ true) → c + 1 ≤ d → c + one_if a + 1 ≤ d + one_if b
grows_last c d true true h k = omega (arith, k)
grows_last c d true false h k = (let e : false ≡ true = h refl in cc)
grows_last c d false true h k = omega (arith, k)
grows_last c d false false h k = omega (arith, k)

more_last : (c d : ℕ) (a b : Bool) → a ≡ false → b ≡ true → c ≤ d → c + one_if a + 1 ≤ d + one_if b
more_last c d true b p q k = (let e : true ≡ false = p in cc)
more_last c d false true p q k = omega (arith, k)
more_last c d false false p q k = (let e : false ≡ true = q in cc)

count_mono : (n : ℕ) (f g : ℕ → Bool) → Within n f g → count n f ≤ count n g
count_mono zero f g h = omega arith
count_mono (suc n) f g h =
    mono_last (count n f) (count n g) (f n) (g n) (h n (omega arith)) (count_mono n f g (λ x b. h x (omega (arith, b))))

-- a set that has all of another and one more has more
count_more_by : (n : ℕ) (f g : ℕ → Bool) (x : ℕ) → Within (suc n) f g → f x ≡ false → g x ≡ true → (x < n → count n f + 1 ≤ count n g)
    → (x ≡ n) ⊎ (x < n) → count (suc n) f + 1 ≤ count (suc n) g
count_more_by n f g x h p q below (inl e) =
    more_last (count n f) (count n g) (f n) (g n) (ap f (sym e) ∙ p) (ap g (sym e) ∙ q) (count_mono n f g (λ y b. h y (omega (arith, b))))
count_more_by n f g x h p q below (inr less) = grows_last (count n f) (count n g) (f n) (g n) (h n (omega arith)) (below less)

count_more : (n : ℕ) (f g : ℕ → Bool) (x : ℕ) → Within n f g → x < n → f x ≡ false → g x ≡ true → count n f + 1 ≤ count n g
count_more zero f g x h less p q = absurd (omega (arith, less))
count_more (suc n) f g x h less p q =
    count_more_by n f g x h p q (λ below. count_more n f g x (λ y b. h y (omega (arith, b))) below p q)
    (let le : x ≤ n = omega (arith, less) in eq-or-lt_of_le le)

or_left : (a b : Bool) → a ≡ true → (a || b) ≡ true
or_left true b e = refl
or_left false b e = (let f : false ≡ true = e in cc)

or_right : (a b : Bool) → b ≡ true → (a || b) ≡ true
or_right true b e = refl
or_right false b e = e

or_cases : (a b : Bool) → (a || b) ≡ true → (a ≡ true) ⊎ (b ≡ true)
or_cases true b e = inl refl
or_cases false b e = inr e

and_both : (a b : Bool) → a ≡ true → b ≡ true → (a && b) ≡ true
and_both true true p q = refl
and_both true false p q = q
and_both false b p q = p

and_first : (a b : Bool) → (a && b) ≡ true → a ≡ true
and_first true b e = refl
and_first false b e = e

and_second : (a b : Bool) → (a && b) ≡ true → b ≡ true
and_second true b e = e
and_second false b e = (let f : false ≡ true = e in cc)

module _ (n : ℕ) (made : List CallEntry) (within : AllByRecursion (λ (c : CallEntry). c.holder < n) made) where
  -- whether one of some calls leads from a set to a number
  abbrev leads : (ℕ → Bool) → ℕ → CallEntry → Bool
  leads set x c = c.called == x && set c.holder

  abbrev step : ℕ → (ℕ → Bool) → ℕ → Bool
  step from set x = x == from || list_any (λ (c : CallEntry). c.called == x && set c.holder) made

  any_within : (calls : List CallEntry) → AllByRecursion (λ (c : CallEntry). c.holder < n) calls → (a b : ℕ → Bool) → Within n a b → (x : ℕ)
      → list_any (leads a x) calls ≡ true → list_any (leads b x) calls ≡ true
  any_within [] all a b w x e = e
  any_within (c ∷ calls) all a b w x e = elim (or_cases (leads a x c) (list_any (leads a x) calls) e) [
    | inl h ↦ or_left (leads b x c) (list_any (leads b x) calls)
        (and_both (c.called == x) (b c.holder) (and_first (c.called == x) (a c.holder) h) (w c.holder all.0 (and_second (c.called == x) (a c.holder) h)))
    | inr h ↦ or_right (leads b x c) (list_any (leads b x) calls) (any_within calls all.1 a b w x h)
  ]

  monotone : (from : ℕ) → IsMonotone n (step from)
  monotone from a b w x less e = elim (or_cases (x == from) (list_any (leads a x) made) e) [
    | inl h ↦ or_left (x == from) (list_any (leads b x) made) h
    | inr h ↦ or_right (x == from) (list_any (leads b x) made) (any_within made within a b w x h)
  ]

  same_number : (x : ℕ) → (x == x) ≡ true
  same_number x = elim (eqb_tells x x) [
    | inl both ↦ both.0
    | inr both ↦ absurd (both.1 refl)
  ]

  -- a function is reached from itself
  pub reaches_itself : (x : ℕ) → x < n → reached made n x x ≡ true
  reaches_itself x less = least_closed n (step x) (monotone x) x less (or_left (x == x) (list_any (leads (reached made n x) x) made) (same_number x))

  any_has : (calls : List CallEntry) (set : ℕ → Bool) (c : CallEntry) → Has calls c → set c.holder ≡ true → list_any (leads set c.called) calls ≡ true
  any_has [] set c h e = absurd h
  any_has (d ∷ calls) set c (inl is) e =
      or_left (leads set c.called d) (list_any (leads set c.called) calls)
      (and_both (d.called == c.called) (set d.holder) (ap (λ (z : CallEntry). z.called == c.called) is ∙ same_number c.called) (ap (λ (z : CallEntry). set z.holder) is ∙ e))
  any_has (d ∷ calls) set c (inr h) e = or_right (leads set c.called d) (list_any (leads set c.called) calls) (any_has calls set c h e)

  -- what a function calls is reached from it
  pub reaches_called : (c : CallEntry) → Has made c → c.holder < n → c.called < n → reached made n c.holder c.called ≡ true
  reaches_called c h holds less =
      least_closed n (step c.holder) (monotone c.holder) c.called less
      (or_right (c.called == c.holder) (list_any (leads (reached made n c.holder) c.called) made)
      (any_has made (reached made n c.holder) c h (reaches_itself c.holder holds)))

  -- and so is what is reached from that
  pub reaches_on : (x g : ℕ) → reached made n x g ≡ true → Within n (reached made n g) (reached made n x)
  reaches_on x g h = least_within n (step g) (monotone g) (reached made n x) (λ y less e. elim (or_cases (y == g) (list_any (leads (reached made n x) y) made) e) [
    | inl k ↦ ap (reached made n x) (eqb-true y g k) ∙ h
    | inr k ↦ least_closed n (step x) (monotone x) y less (or_right (y == x) (list_any (leads (reached made n x) y) made) k)
  ])

  -- less is reached from what a function calls than from itself, where it isn't reached again
  pub fewer : (c : CallEntry) → Has made c → c.holder < n → c.called < n → reached made n c.called c.holder ≡ false
      → count n (reached made n c.called) + 1 ≤ count n (reached made n c.holder)
  fewer c h holds less back =
      count_more n (reached made n c.called) (reached made n c.holder) c.holder
      (reaches_on c.holder c.called (reaches_called c h holds less)) holds back (reaches_itself c.holder holds)

  -- at least itself is reached
  pub some_reached : (x : ℕ) → x < n → 1 ≤ count n (reached made n x)
  some_reached x less =
      let none : count n (λ y. false) + 1 ≤ count n (reached made n x) = count_more n (λ y. false) (reached made n x) x (λ y b e. absurd (cc (e))) less refl (reaches_itself x less) in
      omega (arith, none)
