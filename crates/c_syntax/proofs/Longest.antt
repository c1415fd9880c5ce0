-- Longest fronts, and first bytes.
use Rattle.std.proofs.Common.{◌≡◌, ◌+◌, ◌-◌, ℕ, zero, suc, List, [], ◌∷◌, length, take, drop, refl, ap, sym, ◌∙◌, arith, Option, Some, None}
use Rattle.std.specs.Prelude.{Bool, true, false, ◌==◌, ◌&&◌, ◌||◌, cond, IsTrue}
use Rattle.std.specs.List.{list_all, prefix_len}
use Rattle.std.proofs.lemmas.Bool.{eqb-true}
use Rattle.std.proofs.lemmas.List.{take_rest}
use Rattle.std.proofs.Math.Seq.{drop-nil}
use Rattle.va_base.specs.Longest.{one_more, longest}
use Rattle.va_base.specs.Spelling.{are_some, begins}
use Rattle.va_base.proofs.Longest.{longest-none, longest-cons, longest-same, longest-nil}
use Rattle.va_base.proofs.Tests.{true_not_false}
use Rattle.c_syntax.specs.Fronts.{shifted, above_zero}

pub cond_true : {A : Type 0} (b : Bool) (x y : A) → b ≡ true → cond b x y ≡ x
cond_true true x y e = refl
cond_true false x y e = absurd (true_not_false e refl)

pub cond_false : {A : Type 0} (b : Bool) (x y : A) → b ≡ false → cond b x y ≡ y
cond_false true x y e = absurd (true_not_false refl e)
cond_false false x y e = refl

pub no_left : (a b : Bool) → a || b ≡ false → a ≡ false
no_left true b e = e
no_left false b e = refl

pub no_right : (a b : Bool) → a || b ≡ false → b ≡ false
no_right true b e = absurd (true_not_false refl e)
no_right false b e = e

-- a text without its first byte, as a slice of it is written
abbrev pub rest_of : List ℕ → List ℕ
rest_of text = take (length text - 1) (drop 1 text)

pub rest-cons : (c : ℕ) (rest : List ℕ) → rest_of (c ∷ rest) ≡ rest
rest-cons c rest = take_rest (c ∷ rest) 1

-- a text whose first byte passes
pub first-byte : (test : ℕ → Bool) (text : List ℕ) → IsTrue (begins test text) → (c : ℕ) × (text ≡ c ∷ rest_of text) × (test c ≡ true)
first-byte test [] e = absurd (true_not_false e refl)
first-byte test (c ∷ rest) e = (c, ap (λ l. c ∷ l) (sym (rest-cons c rest)), e)

pub first-literal : (byte : ℕ) (text : List ℕ) → IsTrue (begins (λ b. b == byte) text) → text ≡ byte ∷ rest_of text
first-literal byte text e =
    let f = first-byte (λ b. b == byte) text e in
    f.1 ∙ ap (λ c. c ∷ rest_of text) (eqb-true f.0 byte f.2)

pub none_passes : (text : List ℕ) → longest (λ xs. false) text ≡ None
none_passes text = longest-none (λ xs. false) text (λ m le. refl)

pub shifted-none : (r : Option ℕ) → shifted 0 r ≡ r
shifted-none None = refl
shifted-none (Some n) = ap (λ k. Some k) (omega arith)

pub shifted-one : (r : Option ℕ) → one_more false r ≡ shifted 1 r
shifted-one None = refl
shifted-one (Some n) = ap (λ k. Some k) (omega arith)

pub shifted-four : (r : Option ℕ) → one_more false (one_more false (one_more false (one_more false r))) ≡ shifted 4 r
shifted-four None = refl
shifted-four (Some n) = ap (λ k. Some k) (omega arith)

pub shifted-shifted : (m n : ℕ) (r : Option ℕ) → shifted m (shifted n r) ≡ shifted (m + n) r
shifted-shifted m n None = refl
shifted-shifted m n (Some k) = ap (λ j. Some j) (omega arith)

-- tests that agree on what begins with this byte
pub longest-first : (p q : List ℕ → Bool) (c : ℕ) (rest : List ℕ) → ((xs : List ℕ) → p (c ∷ xs) ≡ q (c ∷ xs)) → p [] ≡ q []
    → longest p (c ∷ rest) ≡ longest q (c ∷ rest)
unfolding longest
longest-first p q c rest e n =
    ap (λ b. one_more b (longest (λ xs. p (c ∷ xs)) rest)) n
    ∙ ap (one_more (q [])) (longest-same (λ xs. p (c ∷ xs)) (λ xs. q (c ∷ xs)) rest e)

all_first : (b : Bool) (q : List ℕ → Bool) (rest : List ℕ) (n : ℕ) → longest q rest ≡ Some n
    → one_more true (longest (λ front. b && q front) rest) ≡ Some (cond b (1 + n) 0)
all_first true q rest n e = ap (one_more true) e ∙ ap (λ k. Some k) (omega arith)
all_first false q rest n e = ap (one_more true) (none_passes rest)

-- all bytes pass
pub longest-all : (p : ℕ → Bool) (text : List ℕ) → longest (list_all p) text ≡ Some (prefix_len p text)
longest-all p [] = longest-nil (list_all p) [] refl
longest-all p (c ∷ rest) =
    longest-cons (list_all p) (λ front. p c && list_all p front) c rest (λ front. refl)
    ∙ all_first (p c) (list_all p) rest (prefix_len p rest) (longest-all p rest)

some_first : (b : Bool) (q : List ℕ → Bool) (rest : List ℕ) (n : ℕ) → longest q rest ≡ Some n
    → one_more false (longest (λ xs. b && q xs) rest) ≡ above_zero (cond b (1 + n) 0)
some_first true q rest n e = ap (one_more false) e ∙ sym (ap above_zero (let one : 1 + n ≡ suc n = omega arith in one))
some_first false q rest n e = ap (one_more false) (none_passes rest)

-- some bytes that pass
pub longest-some : (p : ℕ → Bool) (text : List ℕ) → longest (are_some p) text ≡ above_zero (prefix_len p text)
longest-some p [] = longest-nil (are_some p) [] refl
longest-some p (c ∷ rest) =
    longest-cons (are_some p) (λ xs. p c && list_all p xs) c rest (λ xs. refl)
    ∙ some_first (p c) (list_all p) rest (prefix_len p rest) (longest-all p rest)

pub drop-drop : (m n : ℕ) (xs : List ℕ) → drop n (drop m xs) ≡ drop (m + n) xs
drop-drop zero n xs = ap (λ k. drop k xs) (let same : n ≡ 0 + n = omega arith in same)
drop-drop (suc m) n [] = drop-nil n ∙ sym (drop-nil (suc m + n))
drop-drop (suc m) n (x ∷ xs) = drop-drop m n xs ∙ ap (λ k. drop k (x ∷ xs)) (let same : suc (m + n) ≡ suc m + n = omega arith in same)
