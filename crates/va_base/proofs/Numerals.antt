-- What stands after the digits of a numeral, by its first byte.
use Rattle.std.proofs.Common.{◌≡◌, ◌<◌, ◌≤◌, ℕ, zero, suc, List, [], ◌∷◌, length, take, refl, ap, sym, ◌∙◌, arith, Option, Some, inl, inr, ◌⊎◌}
use Rattle.std.specs.Prelude.{Bool, true, false, ◌==◌, ◌||◌, cond, if◌then◌else◌}
use Rattle.std.specs.Option.{is_some}
use Rattle.std.specs.Prelude.{ℤ}
use Rattle.std.proofs.lemmas.Bool.Decides.{nat_tests, eqb_tells}
use Rattle.std.proofs.lemmas.Bool.{eqb-true}
use Rattle.va_base.specs.Longest.{one_more, longest}
use Rattle.va_base.specs.Spelling.{is_digit_byte, are_digits_then, is_after_whole, is_empty, are_digits, scale_power, is_sign, is_exponent_letter, is_exponent, is_tail}
use Rattle.va_base.proofs.DigitsThen.{BeginsNoDigits}
use Rattle.va_base.proofs.Longest.{longest_is, longest-none, longest-cons}
use Rattle.va_base.proofs.Tests.{not_true, true_not_false, or_cases}

-- the empty front
not_empty : (m : ℕ) (text : List ℕ) → 0 < m → m ≤ length text → is_empty (take m text) ≡ false
not_empty zero text lt le = absurd (omega arith)
not_empty (suc m) [] lt le = absurd (omega arith)
not_empty (suc m) (c ∷ rest) lt le = refl

pub longest-is_empty : (text : List ℕ) → longest is_empty text ≡ Some 0
longest-is_empty text = longest_is is_empty text 0 (record {
  within = omega arith;
  passes = refl;
  longer = λ m lt le. not_empty m text lt le;
})

pub exponent-signed : (text : List ℕ) (c : ℕ) (rest : List ℕ) → text ≡ c ∷ rest → is_sign c ≡ true
    → longest is_exponent text ≡ one_more false (longest are_digits rest)
exponent-signed text c rest e s =
    ap (longest is_exponent) e ∙ longest-cons is_exponent are_digits c rest (λ front. rw s refl)

pub exponent-plain : (text : List ℕ) (c : ℕ) (rest : List ℕ) → text ≡ c ∷ rest → is_sign c ≡ false
    → longest is_exponent text ≡ longest are_digits text
exponent-plain text c rest e s =
    ap (longest is_exponent) e ∙ longest-cons is_exponent (λ front. are_digits (c ∷ front)) c rest (λ front. rw s refl)
    ∙ sym (longest-cons are_digits (λ front. are_digits (c ∷ front)) c rest (λ front. refl)) ∙ ap (longest are_digits) (sym e)

scale_no_exponent : (c : ℕ) → is_some (scale_power c) ≡ true → is_exponent_letter c ≡ false
scale_no_exponent c s = not_true _ (λ x. elim (or_cases (c == 101) (c == 69) x) as (λ t. ⊥) [
  | inl e ↦ true_not_false s (ap (λ k. is_some (scale_power k)) (eqb-true c 101 e))
  | inr e ↦ true_not_false s (ap (λ k. is_some (scale_power k)) (eqb-true c 69 e))
])

or_nothing : (b : Bool) → b || false ≡ b
or_nothing true = refl
or_nothing false = refl

pub tail-scale : (text : List ℕ) (c : ℕ) (rest : List ℕ) → text ≡ c ∷ rest → is_some (scale_power c) ≡ true → longest is_tail text ≡ Some 1
tail-scale text c rest e s =
    ap (longest is_tail) e ∙ longest-cons is_tail is_empty c rest (λ front. rw (s, scale_no_exponent c s) (or_nothing (is_empty front))) ∙ ap (one_more true) (longest-is_empty rest)

pub tail-exponent : (text : List ℕ) (c : ℕ) (rest : List ℕ) → text ≡ c ∷ rest → is_some (scale_power c) ≡ false
    → is_exponent_letter c ≡ true → longest is_tail text ≡ one_more true (longest is_exponent rest)
tail-exponent text c rest e s x =
    ap (longest is_tail) e ∙ longest-cons is_tail is_exponent c rest (λ front. rw (s, x) refl)

pub tail-other : (text : List ℕ) (c : ℕ) (rest : List ℕ) → text ≡ c ∷ rest → is_some (scale_power c) ≡ false
    → is_exponent_letter c ≡ false → longest is_tail text ≡ Some 0
tail-other text c rest e s x =
    ap (longest is_tail) e ∙ longest-cons is_tail (λ front. false) c rest (λ front. rw (s, x) refl)
    ∙ ap (one_more true) (longest-none (λ front. false) rest (λ m le. refl))

-- a scale factor is one of its letters
scale_step : (c k : ℕ) (v : ℤ) (rest : Option ℤ) → is_some (if c == k then Some v else rest) ≡ true → (c ≡ k) ⊎ (is_some rest ≡ true)
scale_step c k v rest s = elim (eqb_tells c k) as (λ t. (c ≡ k) ⊎ (is_some rest ≡ true)) [
  | inl w ↦ inl w.1
  | inr w ↦ inr (ap (λ b. is_some (cond b (Some v) rest)) (sym w.0) ∙ s)
]

scale_no_digit : (c : ℕ) → is_digit_byte c ≡ true → is_some (scale_power c) ≡ false
scale_no_digit c d = grind (arith, nat_tests)

exponent_no_digit : (c : ℕ) → is_digit_byte c ≡ true → is_exponent_letter c ≡ false
exponent_no_digit c d = grind (arith, nat_tests)

pub tail-no_digits : BeginsNoDigits is_tail
tail-no_digits c rest d = rw (scale_no_digit c d, exponent_no_digit c d) refl

point_no_digit : (c : ℕ) → is_digit_byte c ≡ true → (c == 46) ≡ false
point_no_digit c d = grind (arith, nat_tests)

pub after_whole-no_digits : BeginsNoDigits is_after_whole
after_whole-no_digits c rest d = rw (point_no_digit c d) (tail-no_digits c rest d)

pub after_whole-point : (text : List ℕ) (c : ℕ) (rest : List ℕ) → text ≡ c ∷ rest → c ≡ 46
    → longest is_after_whole text ≡ one_more true (longest (are_digits_then is_tail) rest)
after_whole-point text c rest e p =
    ap (longest is_after_whole) e ∙ longest-cons is_after_whole (are_digits_then is_tail) c rest (λ front. rw p refl)

pub after_whole-tail : (text : List ℕ) (c : ℕ) (rest : List ℕ) → text ≡ c ∷ rest → (c ≡ 46 → ⊥)
    → longest is_after_whole text ≡ longest is_tail text
after_whole-tail text c rest e p =
    let other : (c == 46) ≡ false = not_true _ (λ q. p (eqb-true c 46 q)) in
    ap (longest is_after_whole) e ∙ longest-cons is_after_whole (λ front. is_tail (c ∷ front)) c rest (λ front. rw other refl)
    ∙ sym (longest-cons is_tail (λ front. is_tail (c ∷ front)) c rest (λ front. refl)) ∙ ap (longest is_tail) (sym e)
