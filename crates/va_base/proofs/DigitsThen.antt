-- Digits, and then what passes a test: the longest such front.
use Rattle.std.proofs.Common.{◌≡◌, ◌<◌, ◌≤◌, ◌+◌, ◌-◌, ℕ, zero, suc, List, [], ◌∷◌, length, take, drop, get_or, refl, ap, sym, ◌∙◌, arith, Some, None, inl, inr, ◌⊎◌, min}
use Rattle.std.specs.Prelude.{Bool, true, false, ◌&&◌, cond}
use Rattle.std.specs.List.{prefix_len}
use Rattle.std.proofs.lemmas.Bool.{cases_lt}
use Rattle.std.proofs.lemmas.List.{get_or-take, length-take-le, length-drop, drop-take, drop_all}
use Rattle.std.proofs.lemmas.List.Sums.{prefix_len-le-length}
use Rattle.std.proofs.Math.Nat.{min-eq_left, min-eq_right}
use Rattle.va_base.specs.Longest.{longest, IsLongest, HasNone}
use Rattle.va_base.specs.Spelling.{is_digit_byte, are_digits, are_digits_then}
use Rattle.va_base.proofs.Digits.{digits_bytes}
use Rattle.va_base.proofs.Longest.{longest_is, longest-none, IsLongest-from, HasNone-from}
use Rattle.va_base.proofs.Tests.{true_not_false, and_true, and_false}

-- no front that passes begins with a digit or `_`
abbrev pub BeginsNoDigits : (List ℕ → Bool) → Type 0
BeginsNoDigits test = (c : ℕ) (rest : List ℕ) → is_digit_byte c ≡ true → test (c ∷ rest) ≡ false

pub take-take : (n m : ℕ) (xs : List ℕ) → n ≤ m → take n (take m xs) ≡ take n xs
take-take zero m xs le = refl
take-take (suc n) zero xs le = absurd (omega arith)
take-take (suc n) (suc m) [] le = refl
take-take (suc n) (suc m) (x ∷ xs) le = ap (λ l. x ∷ l) (take-take n m xs (omega arith))

prefix_cond : (p : ℕ → Bool) (b : Bool) (m n k : ℕ) → k ≡ min m n → cond b (1 + k) 0 ≡ min (suc m) (cond b (1 + n) 0)
prefix_cond p true m n k e = omega arith
prefix_cond p false m n k e = omega arith

prefix_len-take : (p : ℕ → Bool) (text : List ℕ) (m : ℕ) → prefix_len p (take m text) ≡ min m (prefix_len p text)
prefix_len-take p text zero = omega arith
prefix_len-take p [] (suc m) = omega arith
prefix_len-take p (c ∷ rest) (suc m) =
    prefix_cond p (p c) m (prefix_len p rest) (prefix_len p (take m rest)) (prefix_len-take p rest m)

-- so many bytes pass
prefix-le : (p : ℕ → Bool) (text : List ℕ) (n : ℕ) → n ≤ length text → ((k : ℕ) → k < n → p (get_or text k 0) ≡ true) → n ≤ prefix_len p text
prefix-le p text zero le all = omega arith
prefix-le p [] (suc n) le all = absurd (omega arith)
prefix-le p (c ∷ rest) (suc n) le all =
    let more : n ≤ prefix_len p rest = prefix-le p rest n (omega arith) (λ k lt. all (suc k) (omega arith)) in
    let here : p c ≡ true = all 0 (omega arith) in
    rw here (omega arith)

-- a front of digits and `_` alone
within_digits : (test : List ℕ → Bool) (text : List ℕ) (m : ℕ) → m ≤ length text → m ≤ prefix_len is_digit_byte text
    → are_digits_then test (take m text) ≡ are_digits (take m text) && test []
within_digits test text m le small =
    let p : prefix_len is_digit_byte (take m text) ≡ m = prefix_len-take is_digit_byte text m ∙ min-eq_left small in
    let size : length (take m text) ≡ m = length-take-le m text le in
    let front : take m (take m text) ≡ take m text = take-take m m text (omega arith) in
    let back : drop m (take m text) ≡ [] = drop_all m (take m text) (omega arith) in
    ap (λ k. are_digits (take k (take m text)) && test (drop k (take m text))) p
    ∙ ap (λ l. are_digits l && test (drop m (take m text))) front ∙ ap (λ l. are_digits (take m text) && test l) back

-- a front that goes past them
past_digits : (test : List ℕ → Bool) (text : List ℕ) (r j : ℕ) → prefix_len is_digit_byte text ≡ r
    → are_digits_then test (take (r + j) text) ≡ are_digits (take r text) && test (take j (drop r text))
past_digits test text r j e =
    let small : prefix_len is_digit_byte text ≤ r + j = omega arith in
    let p : prefix_len is_digit_byte (take (r + j) text) ≡ r = prefix_len-take is_digit_byte text (r + j) ∙ min-eq_right small ∙ e in
    let front : take r (take (r + j) text) ≡ take r text = take-take r (r + j) text (omega arith) in
    let back : drop r (take (r + j) text) ≡ take j (drop r text) = drop-take r j text in
    ap (λ k. are_digits (take k (take (r + j) text)) && test (drop k (take (r + j) text))) p
    ∙ ap (λ l. are_digits l && test (drop r (take (r + j) text))) front ∙ ap (λ l. are_digits (take r text) && test l) back

-- a front passes only where digits of it do
none_passes : (test : List ℕ → Bool) (text : List ℕ) (m : ℕ) → m ≤ length text
    → ((k : ℕ) → k ≤ m → (k ≡ m) ⊎ (prefix_len is_digit_byte text ≡ k) → are_digits (take k text) ≡ false)
    → are_digits_then test (take m text) ≡ false
none_passes test text m le none =
    let r = prefix_len is_digit_byte text in
    elim (cases_lt r m) as (λ t. are_digits_then test (take m text) ≡ false) [
      | inl past ↦ (let j = m - r in
          let whole : r + j ≡ m = omega arith in
          ap (λ k. are_digits_then test (take k text)) (sym whole) ∙ past_digits test text r j refl
          ∙ ap (λ b. b && test (take j (drop r text))) (none r (omega arith) (inr refl)))
      | inr small ↦ within_digits test text m le small ∙ ap (λ b. b && test []) (none m (omega arith) (inl refl))
    ]

-- nothing passes where no front is digits
pub digits_then_none : (test : List ℕ → Bool) (text : List ℕ) → longest are_digits text ≡ None → longest (are_digits_then test) text ≡ None
digits_then_none test text e =
    let none : HasNone are_digits text = HasNone-from are_digits text e in
    longest-none (are_digits_then test) text (λ m le. none_passes test text m le (λ k small s. none k (omega arith)))

-- the longest digits do not go past the digits and `_` at the front
digits_within : (text : List ℕ) (n : ℕ) → IsLongest are_digits text n → n ≤ prefix_len is_digit_byte text
digits_within text n l =
    let size : length (take n text) ≡ n = length-take-le n text l.within in
    prefix-le is_digit_byte text n l.within
    (λ k lt. ap is_digit_byte (sym (get_or-take n text k 0 lt)) ∙ digits_bytes (take n text) l.passes k (omega arith))

first_cond : (b : Bool) (n : ℕ) → 0 < cond b (1 + n) 0 → b ≡ true
first_cond true n some = refl
first_cond false n some = absurd (omega arith)

first_passes : (p : ℕ → Bool) (c : ℕ) (rest : List ℕ) → 0 < prefix_len p (c ∷ rest) → p c ≡ true
first_passes p c rest some = first_cond (p c) (prefix_len p rest) some

-- where a digit or `_` comes next, nothing more passes
front_only : (test : List ℕ → Bool) (text : List ℕ) (k : ℕ) → BeginsNoDigits test → 0 < prefix_len is_digit_byte text
    → IsLongest test text k → k ≡ 0
front_only test text zero begins some l = refl
front_only test [] (suc k) begins some l = absurd (omega (arith, l.within))
front_only test (c ∷ rest) (suc k) begins some l =
    absurd (true_not_false l.passes (begins c (take k rest) (first_passes is_digit_byte c rest some)))

short_digits : (test : List ℕ → Bool) (text : List ℕ) (n : ℕ) → test [] ≡ true → n < prefix_len is_digit_byte text
    → IsLongest are_digits text n → IsLongest (are_digits_then test) text n
short_digits test text n empty more l = record {
  within = l.within;
  passes = within_digits test text n l.within (omega arith) ∙ and_true _ _ l.passes empty;
  longer = λ m lt le.
      let bound : prefix_len is_digit_byte text ≤ length text = prefix_len-le-length is_digit_byte text in
      none_passes test text m le (λ k small s. elim s as (λ t. are_digits (take k text) ≡ false) [
        | inl e ↦ l.longer k (omega arith) (omega arith)
        | inr e ↦ l.longer k (omega arith) (omega arith)
      ]);
}

all_digits : (test : List ℕ → Bool) (text : List ℕ) (n k : ℕ) → prefix_len is_digit_byte text ≡ n → IsLongest are_digits text n
    → IsLongest test (drop n text) k → IsLongest (are_digits_then test) text (n + k)
all_digits test text n k e l t = record {
  within = omega (arith, l.within, t.within, length-drop n text);
  passes = past_digits test text n k e ∙ and_true _ _ l.passes t.passes;
  longer = λ m lt le.
      let j = m - n in
      let whole : n + j ≡ m = omega arith in
      ap (λ i. are_digits_then test (take i text)) (sym whole) ∙ past_digits test text n j e
      ∙ and_false (are_digits (take n text)) (test (take j (drop n text))) (t.longer j (omega arith) (omega (arith, length-drop n text)));
}

prefix_cut : (b : Bool) (n r k : ℕ) → suc n ≤ cond b (1 + r) 0 → (n ≤ r → k + n ≡ r) → k + suc n ≡ cond b (1 + r) 0
prefix_cut true n r k le e = let h = e (omega arith) in omega arith
prefix_cut false n r k le e = absurd (omega arith)

prefix_len-drop : (n : ℕ) (text : List ℕ) → n ≤ prefix_len is_digit_byte text
    → prefix_len is_digit_byte (drop n text) + n ≡ prefix_len is_digit_byte text
prefix_len-drop zero text le = omega arith
prefix_len-drop (suc n) [] le = absurd (omega arith)
prefix_len-drop (suc n) (c ∷ rest) le =
    prefix_cut (is_digit_byte c) n (prefix_len is_digit_byte rest) (prefix_len is_digit_byte (drop n rest)) le
    (λ small. prefix_len-drop n rest small)

-- the longest digits, and the longest front of the rest
pub digits_then_some : (test : List ℕ → Bool) (text : List ℕ) (n k : ℕ) → test [] ≡ true → BeginsNoDigits test
    → longest are_digits text ≡ Some n → longest test (drop n text) ≡ Some k → longest (are_digits_then test) text ≡ Some (n + k)
digits_then_some test text n k empty begins d t =
    let l : IsLongest are_digits text n = IsLongest-from are_digits text n d in
    let m : IsLongest test (drop n text) k = IsLongest-from test (drop n text) k t in
    let bound : n ≤ prefix_len is_digit_byte text = digits_within text n l in
    elim (cases_lt n (prefix_len is_digit_byte text)) as (λ s. longest (are_digits_then test) text ≡ Some (n + k)) [
      | inl more ↦ (let some : 0 < prefix_len is_digit_byte (drop n text) = omega (arith, prefix_len-drop n text bound) in
          let none : k ≡ 0 = front_only test (drop n text) k begins some m in
          longest_is (are_digits_then test) text n (short_digits test text n empty more l) ∙ ap (λ i. Some i) (omega arith))
      | inr all ↦ longest_is (are_digits_then test) text (n + k) (all_digits test text n k (omega arith) l m)
    ]
