-- Digits at the front of a text, byte by byte.
use Rattle.std.proofs.Common.{◌≡◌, ◌<◌, ◌≤◌, ℕ, zero, suc, List, [], ◌∷◌, length, take, get_or, refl, ap, sym, ◌∙◌, arith, inl, inr, ◌⊎◌}
use Rattle.std.specs.Prelude.{Bool, true, false, not, ◌==◌, ◌&&◌, ◌||◌, nat_lt}
use Rattle.std.specs.Bool.{then_some}
use Rattle.std.proofs.lemmas.List.{get_or-take, length-take-le}
use Rattle.std.proofs.lemmas.Bool.{cases_lt, eqb-true}
use Rattle.std.proofs.lemmas.Bool.Decides.{nat_tests}
use Rattle.va_base.specs.Longest.{longest}
use Rattle.va_base.specs.Spelling.{is_digit, is_digit_byte, is_empty, are_digit_groups, are_digits}
use Rattle.va_base.proofs.Longest.{longest_is, longest-none}
use Rattle.va_base.proofs.Tests.{not_true, true_not_false, and_left, and_right, and_true, or_left, or_false}

last_digit : (a b : Bool) → (a || b && false) && true ≡ true → a ≡ true
last_digit true b e = refl
last_digit false true e = e
last_digit false false e = e

digit_byte : (a b x : Bool) → a || b && x ≡ true → a || b ≡ true
digit_byte true b x e = refl
digit_byte false b x e = and_left b x e

inner_byte : (a b : Bool) → a || b ≡ true → a || b && true ≡ true
inner_byte true b e = refl
inner_byte false true e = refl
inner_byte false false e = e

-- each byte of digit groups is a digit or `_`
groups_bytes : (xs : List ℕ) → are_digit_groups xs ≡ true → (k : ℕ) → k < length xs → is_digit_byte (get_or xs k 0) ≡ true
groups_bytes [] g k lt = absurd (omega arith)
groups_bytes (c ∷ rest) g zero lt =
    digit_byte (is_digit c) (c == 95) (not (is_empty rest)) (and_left _ (are_digit_groups rest) g)
groups_bytes (c ∷ rest) g (suc k) lt =
    groups_bytes rest (and_right (is_digit c || c == 95 && not (is_empty rest)) (are_digit_groups rest) g) k (omega arith)

-- the last one is a digit
groups_last : (xs : List ℕ) → are_digit_groups xs ≡ true → (k : ℕ) → length xs ≡ suc k → is_digit (get_or xs k 0) ≡ true
groups_last [] g k e = absurd (omega arith)
groups_last (c ∷ []) g zero e = last_digit (is_digit c) (c == 95) g
groups_last (c ∷ []) g (suc k) e = absurd (omega arith)
groups_last (c ∷ d ∷ rest) g zero e = absurd (omega arith)
groups_last (c ∷ d ∷ rest) g (suc k) e =
    groups_last (d ∷ rest) (and_right (is_digit c || c == 95 && true) (are_digit_groups (d ∷ rest)) g) k (omega arith)

-- digits and `_` with a digit at the end are digit groups
groups_is : (xs : List ℕ) → ((k : ℕ) → k < length xs → is_digit_byte (get_or xs k 0) ≡ true)
    → ((k : ℕ) → length xs ≡ suc k → is_digit (get_or xs k 0) ≡ true) → are_digit_groups xs ≡ true
groups_is [] all last = refl
groups_is (c ∷ []) all last = rw (last 0 refl) refl
groups_is (c ∷ d ∷ rest) all last =
    and_true (is_digit c || c == 95 && true) (are_digit_groups (d ∷ rest)) (inner_byte (is_digit c) (c == 95) (all 0 (omega arith)))
    (groups_is (d ∷ rest) (λ k lt. all (suc k) (omega arith)) (λ k e. last (suc k) (omega arith)))

-- what is true of digits
pub digits_bytes : (xs : List ℕ) → are_digits xs ≡ true → (k : ℕ) → k < length xs → is_digit_byte (get_or xs k 0) ≡ true
digits_bytes [] e k lt = absurd (omega arith)
digits_bytes (c ∷ rest) e zero lt = or_left (is_digit c) (c == 95) (and_left _ (are_digit_groups rest) e)
digits_bytes (c ∷ rest) e (suc k) lt = groups_bytes rest (and_right (is_digit c) _ e) k (omega arith)

pub digits_first : (xs : List ℕ) → are_digits xs ≡ true → is_digit (get_or xs 0 0) ≡ true
digits_first [] e = absurd (true_not_false e refl)
digits_first (c ∷ rest) e = and_left _ (are_digit_groups rest) e

pub digits_last : (xs : List ℕ) → are_digits xs ≡ true → (k : ℕ) → length xs ≡ suc k → is_digit (get_or xs k 0) ≡ true
digits_last [] e k l = absurd (omega arith)
digits_last (c ∷ rest) e zero l = and_left _ (are_digit_groups rest) e
digits_last (c ∷ rest) e (suc k) l = groups_last rest (and_right (is_digit c) _ e) k (omega arith)

-- and what makes some bytes digits
pub digits_is : (xs : List ℕ) → is_digit (get_or xs 0 0) ≡ true → ((k : ℕ) → k < length xs → is_digit_byte (get_or xs k 0) ≡ true)
    → ((k : ℕ) → length xs ≡ suc k → is_digit (get_or xs k 0) ≡ true) → are_digits xs ≡ true
digits_is [] first all last = first
digits_is (c ∷ rest) first all last =
    and_true (is_digit c) (are_digit_groups rest) first
    (groups_is rest (λ k lt. all (suc k) (omega arith)) (λ k e. last (suc k) (omega arith)))

-- What is known of a text where its first `at` bytes were read, and `len` is the length of the longest digits among them.
pub record DigitsRead (text : List ℕ) (at len : ℕ) : Type 0 where
  pub within : at ≤ length text
  pub order : len ≤ at
  pub some : 0 < at → 0 < len
  pub first : 0 < len → is_digit (get_or text 0 0) ≡ true
  pub last : (k : ℕ) → len ≡ suc k → is_digit (get_or text k 0) ≡ true
  pub bytes : (k : ℕ) → k < at → is_digit_byte (get_or text k 0) ≡ true
  pub others : (k : ℕ) → len ≤ k → k < at → is_digit (get_or text k 0) ≡ false

-- the byte at `at` ends the digits
abbrev pub StopsDigits : List ℕ → ℕ → ℕ → Type 0
StopsDigits text at len =
    (at ≡ length text) ⊎ ((at < length text) × (is_digit (get_or text at 0) ≡ false) × ((is_digit_byte (get_or text at 0) ≡ false) ⊎ (len ≡ 0)))

none_read : (at len : ℕ) → (0 < at → 0 < len) → len ≡ 0 → at ≡ 0
none_read zero len some z = refl
none_read (suc at) len some z = let h : 0 < len = some (omega arith) in absurd (omega arith)

-- a front past the byte that ends the digits
past_stop : (text : List ℕ) (at len m : ℕ) → DigitsRead text at len → at < m → m ≤ length text → is_digit (get_or text at 0) ≡ false
    → (is_digit_byte (get_or text at 0) ≡ false) ⊎ (len ≡ 0) → are_digits (take m text) ≡ true → ⊥
past_stop text at len m r lt le d (inl b) e =
    let size : length (take m text) ≡ m = length-take-le m text le in
    true_not_false
    (ap is_digit_byte (sym (get_or-take m text at 0 lt)) ∙ digits_bytes (take m text) e at (omega arith)) b
past_stop text at len m r lt le d (inr z) e =
    let none : at ≡ 0 = none_read at len r.some z in
    let first : is_digit (get_or text 0 0) ≡ true = ap is_digit (sym (get_or-take m text 0 0 (omega arith))) ∙ digits_first (take m text) e in
    true_not_false first (ap (λ k. is_digit (get_or text k 0)) (sym none) ∙ d)

-- the last byte of a longer front is no digit
before_stop : (text : List ℕ) (at len m : ℕ) → DigitsRead text at len → len ≤ m → m < at → suc m ≤ length text
    → are_digits (take (suc m) text) ≡ true → ⊥
before_stop text at len m r lt below le e =
    let size : length (take (suc m) text) ≡ suc m = length-take-le (suc m) text le in
    true_not_false
    (ap is_digit (sym (get_or-take (suc m) text m 0 (omega arith))) ∙ digits_last (take (suc m) text) e m size)
    (r.others m lt below)

no_more : (text : List ℕ) (at len m : ℕ) → DigitsRead text at len → StopsDigits text at len → len < m → m ≤ length text
    → are_digits (take m text) ≡ true → ⊥
no_more text at len zero r s lt le e = absurd (omega arith)
no_more text at len (suc m) r (inl all) lt le e = before_stop text at len m r (omega arith) (omega arith) le e
no_more text at len (suc m) r (inr w) lt le e = elim (cases_lt m at) as (λ t. ⊥) [
  | inl below ↦ before_stop text at len m r (omega arith) below le e
  | inr above ↦ past_stop text at len (suc m) r (omega arith) le w.1 w.2 e
]

above_zero : (n : ℕ) → nat_lt 0 (suc n) ≡ true
above_zero n = grind (arith, nat_tests)

-- the digits that were read are the longest
pub digits_done : (text : List ℕ) (at len : ℕ) → DigitsRead text at len → StopsDigits text at len
    → longest are_digits text ≡ then_some (nat_lt 0 len) len
digits_done text at zero r s =
    longest-none are_digits text (λ m. elim m as (λ k. k ≤ length text → are_digits (take k text) ≡ false) [
      | zero ↦ λ le. refl
      | suc k ↦ λ le. not_true _ (no_more text at zero (suc k) r s (omega arith) le)
    ])
digits_done text at (suc n) r s =
    rw (above_zero n) (longest_is are_digits text (suc n) (record {
      within = omega (arith, r.within, r.order);
      passes =
          let within : suc n ≤ length text = omega (arith, r.within, r.order) in
          let size : length (take (suc n) text) ≡ suc n = length-take-le (suc n) text within in
          digits_is (take (suc n) text)
          (ap is_digit (get_or-take (suc n) text 0 0 (omega arith)) ∙ r.first (omega arith))
          (λ k lt. ap is_digit_byte (get_or-take (suc n) text k 0 (omega arith)) ∙ r.bytes k (omega (arith, r.order)))
          (λ k e. ap is_digit (get_or-take (suc n) text k 0 (omega arith)) ∙ r.last k (omega arith));
      longer = λ m lt le. not_true _ (no_more text at (suc n) m r s lt le);
    }))

-- a byte that is neither a digit nor `_`
pub other_byte : (byte : ℕ) → is_digit byte ≡ false → (byte ≡ 95 → ⊥) → is_digit_byte byte ≡ false
other_byte byte d n = or_false (is_digit byte) (byte == 95) d (not_true _ (λ e. n (eqb-true byte 95 e)))
