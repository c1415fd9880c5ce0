-- The longest front of a text, by what passes and by what does not.
use Rattle.std.proofs.Common.{◌≡◌, ◌<◌, ◌≤◌, ℕ, zero, suc, List, [], ◌∷◌, length, take, refl, ap, sym, ◌∙◌, arith, Some, None, subst, inl, inr, ◌⊎◌}
use Rattle.std.specs.Prelude.{Bool, true, false, if◌then◌else◌}
use Rattle.va_base.specs.Longest.{one_more, longest, IsLongest, HasNone, FindsLongest}

-- tests that agree have the same longest front
pub longest-same : (p q : List ℕ → Bool) (text : List ℕ) → ((front : List ℕ) → p front ≡ q front) → longest p text ≡ longest q text
unfolding longest
longest-same p q [] e = rw (e []) refl
longest-same p q (c ∷ rest) e =
    let head : one_more (p []) (longest (λ front. p (c ∷ front)) rest) ≡ one_more (q []) (longest (λ front. p (c ∷ front)) rest) =
    ap (λ b. one_more b (longest (λ front. p (c ∷ front)) rest)) (e []) in
    head ∙ ap (one_more (q [])) (longest-same (λ front. p (c ∷ front)) (λ front. q (c ∷ front)) rest (λ front. e (c ∷ front)))

-- the first byte taken off
pub longest-cons : (p q : List ℕ → Bool) (c : ℕ) (rest : List ℕ) → ((front : List ℕ) → p (c ∷ front) ≡ q front)
    → longest p (c ∷ rest) ≡ one_more (p []) (longest q rest)
unfolding longest
longest-cons p q c rest e = ap (one_more (p [])) (longest-same (λ front. p (c ∷ front)) q rest e)

-- a text of no bytes
pub longest-nil : (test : List ℕ → Bool) (text : List ℕ) → length text ≡ 0 → longest test text ≡ (if test [] then Some 0 else None)
unfolding longest
longest-nil test [] e = refl
longest-nil test (c ∷ rest) e = absurd (omega arith)

-- no front passes
pub longest-none : (p : List ℕ → Bool) (text : List ℕ) → HasNone p text → longest p text ≡ None
unfolding longest
longest-none p [] h = rw (h 0 (omega arith)) refl
longest-none p (c ∷ rest) h =
    let tail : longest (λ front. p (c ∷ front)) rest ≡ None = longest-none (λ front. p (c ∷ front)) rest (λ m le. h (suc m) (omega arith)) in
    rw (tail, h 0 (omega arith)) refl

-- a front passes and no longer one does
pub longest_is : (p : List ℕ → Bool) (text : List ℕ) (n : ℕ) → IsLongest p text n → longest p text ≡ Some n
unfolding longest
longest_is p [] zero h = rw h.passes refl
longest_is p [] (suc n) h = absurd (omega (arith, h.within))
longest_is p (c ∷ rest) zero h =
    let tail : longest (λ front. p (c ∷ front)) rest ≡ None =
    longest-none (λ front. p (c ∷ front)) rest (λ m le. h.longer (suc m) (omega arith) (omega arith)) in
    rw (tail, h.passes) refl
longest_is p (c ∷ rest) (suc n) h =
    let tail : longest (λ front. p (c ∷ front)) rest ≡ Some n =
    longest_is (λ front. p (c ∷ front)) rest n (record {
      within = omega (arith, h.within);
      passes = h.passes;
      longer = λ m lt le. h.longer (suc m) (omega arith) (omega arith);
    }) in
    rw tail refl

pub some_none : {A : Type 0} {n : A} → Some n ≡ None → ⊥
some_none e = cc

pub some_same : {A : Type 0} {m n : A} → Some m ≡ Some n → m ≡ n
some_same e = cc

-- one of the two holds
abbrev Found : (List ℕ → Bool) → List ℕ → Type 0
Found p text = HasNone p text ⊎ ((n : ℕ) × IsLongest p text n)

none_later : (p : List ℕ → Bool) (c : ℕ) (rest : List ℕ) → HasNone (λ front. p (c ∷ front)) rest
    → (m : ℕ) → 0 < m → m ≤ length (c ∷ rest) → p (take m (c ∷ rest)) ≡ false
none_later p c rest none zero lt le = absurd (omega arith)
none_later p c rest none (suc m) lt le = none m (omega arith)

found_here : (p : List ℕ → Bool) (c : ℕ) (rest : List ℕ) → HasNone (λ front. p (c ∷ front)) rest
    → (b : Bool) → p [] ≡ b → Found p (c ∷ rest)
found_here p c rest none true e =
    inr (0, record { within = omega arith; passes = e; longer = none_later p c rest none })
found_here p c rest none false e =
    inl (λ m. elim m as (λ k. k ≤ length (c ∷ rest) → p (take k (c ∷ rest)) ≡ false) [
      | zero ↦ λ le. e
      | suc k ↦ λ le. none k (omega arith)
    ])

found_in_rest : (p : List ℕ → Bool) (c : ℕ) (rest : List ℕ) (n : ℕ) → IsLongest (λ front. p (c ∷ front)) rest n
    → IsLongest p (c ∷ rest) (suc n)
found_in_rest p c rest n h = record {
  within = omega (arith, h.within);
  passes = h.passes;
  longer = λ m. elim m as (λ k. suc n < k → k ≤ length (c ∷ rest) → p (take k (c ∷ rest)) ≡ false) [
    | zero ↦ λ lt le. absurd (omega arith)
    | suc k ↦ λ lt le. h.longer k (omega arith) (omega arith)
  ];
}

found_none : (p : List ℕ → Bool) → (b : Bool) → p [] ≡ b → Found p []
found_none p true e = inr (0, record { within = omega arith; passes = e; longer = λ m lt le. absurd (omega arith) })
found_none p false e = inl (λ m le. elim m as (λ k. p (take k []) ≡ false) [ zero ↦ e | suc k ↦ e ])

found : (p : List ℕ → Bool) (text : List ℕ) → Found p text
found p [] = found_none p (p []) refl
found p (c ∷ rest) = elim (found (λ front. p (c ∷ front)) rest) as (λ f. Found p (c ∷ rest)) [
  | inl none ↦ found_here p c rest none (p []) refl
  | inr w ↦ inr (suc w.0, found_in_rest p c rest w.0 w.1)
]

pub IsLongest-from : (p : List ℕ → Bool) (text : List ℕ) (n : ℕ) → longest p text ≡ Some n → IsLongest p text n
IsLongest-from p text n e = elim (found p text) as (λ f. IsLongest p text n) [
  | inl none ↦ (let h = longest-none p text none in absurd (some_none (sym e ∙ h)))
  | inr w ↦ (let h = longest_is p text w.0 w.1 in
      let same : w.0 ≡ n = some_same (sym h ∙ e) in
      let P : ℕ → Type 0 = λ k. IsLongest p text k in subst P same w.1)
]

pub HasNone-from : (p : List ℕ → Bool) (text : List ℕ) → longest p text ≡ None → HasNone p text
HasNone-from p text e = elim (found p text) as (λ f. HasNone p text) [
  | inl none ↦ none
  | inr w ↦ (let h = longest_is p text w.0 w.1 in absurd (some_none (sym h ∙ e)))
]

pub finds_longest : FindsLongest
finds_longest = record { some = IsLongest-from; none = HasNone-from }
