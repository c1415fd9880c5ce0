-- Numbers as they are written: digits without a leading zero, which give the number back.
use Rattle.std.proofs.Common.{◌≡◌, ◌<◌, ◌≤◌, ◌+◌, ◌-◌, ◌*◌, ◌^◌, ℕ, suc, List, [], ◌∷◌, ◌++◌, length, take, drop, refl, ap, sym, ◌∙◌, arith}
use Rattle.std.specs.Prelude.{Bool, true, false, not, ◌==◌, ◌/◌, ◌%◌, decimal, fold}
use Rattle.std.specs.List.{list_all, prefix_len}
use Rattle.std.proofs.lemmas.Bool.{and_parts, and_from}
use Rattle.std.proofs.lemmas.Bool.Decides.{nat_tests}
use Rattle.std.proofs.lemmas.List.Sums.{fold-append}
use Rattle.std.proofs.lemmas.List.Folds.{list_all-append}
use Rattle.std.proofs.lemmas.Fmt.{decimal_by_steps_wide}
use Rattle.std.proofs.Math.Seq.{take-append_seam, drop-append_seam}
use Rattle.va_base.specs.Spelling.{is_digit, is_empty, begins}
use Rattle.va_base.specs.Numerals.{number_of}
use Rattle.va_base.proofs.NumberOf.{next_number, number_of-fold}
use Rattle.va_base.proofs.Tests.{true_not_false, or_right}
use Rattle.c_tree.specs.tokens.Limits.{has_no_leading_zero}
use Rattle.c_syntax.proofs.Longest.{cond_true, cond_false}

abbrev pub is_nonzero : ℕ → Bool
is_nonzero byte = not (byte == 48)

-- digits that write a number
pub record IsDecimal (n : ℕ) (ds : List ℕ) : Type 0 where
  pub digits : list_all is_digit ds ≡ true
  pub value : number_of ds ≡ n
  pub some : begins is_digit ds ≡ true
  pub nonzero : 0 < n → begins is_nonzero ds ≡ true
  pub plain : has_no_leading_zero ds ≡ true

digit_is : (n : ℕ) → n < 10 → is_digit (48 + n) ≡ true
digit_is n h = grind (arith, nat_tests)

nonzero_is : (n : ℕ) → 0 < n → is_nonzero (48 + n) ≡ true
nonzero_is n h = grind (arith, nat_tests)

one_digit : (n : ℕ) → n < 10 → IsDecimal n ((48 + n) ∷ [])
one_digit n h =
    record {
      digits = and_from (is_digit (48 + n)) true (digit_is n h) refl;
      value = number_of-fold ((48 + n) ∷ []) ∙ cond_true (is_digit (48 + n)) _ _ (digit_is n h) ∙ (let less : 10 * 0 + (48 + n - 48) ≡ n = omega arith in less);
      some = digit_is n h;
      nonzero = λ g. nonzero_is n g;
      plain = refl;
    }

begins_more : (p : ℕ → Bool) (ds more : List ℕ) → begins p ds ≡ true → begins p (ds ++ more) ≡ true
begins_more p [] more h = absurd (true_not_false h refl)
begins_more p (d ∷ ds) more h = h

plain_first : (ds : List ℕ) → begins is_nonzero ds ≡ true → has_no_leading_zero ds ≡ true
plain_first [] h = absurd (true_not_false h refl)
plain_first (d ∷ ds) h = or_right (is_empty ds) (is_nonzero d) h

last_digit : (ds : List ℕ) (m n : ℕ) → number_of ds ≡ m → n < 10 → number_of (ds ++ (48 + n) ∷ []) ≡ 10 * m + n
last_digit ds m n e h =
    number_of-fold (ds ++ (48 + n) ∷ []) ∙ fold-append next_number 0 ds ((48 + n) ∷ [])
    ∙ cond_true (is_digit (48 + n)) _ _ (digit_is n h)
    ∙ (let value : fold next_number 0 ds ≡ m = sym (number_of-fold ds) ∙ e in
    let same : 10 * fold next_number 0 ds + (48 + n - 48) ≡ 10 * m + n = omega (arith, value) in same)

more_digits : (n : ℕ) (ds : List ℕ) → 10 ≤ n → IsDecimal (n / 10) ds → IsDecimal n (ds ++ (48 + n % 10) ∷ [])
more_digits n ds h d =
    let small : n % 10 < 10 = omega arith in
    let some : 0 < n / 10 = omega (arith, h) in
    let first = d.nonzero some in
    record {
      digits = list_all-append is_digit ds ((48 + n % 10) ∷ []) ∙ and_from (list_all is_digit ds) _ d.digits (and_from (is_digit (48 + n % 10)) true (digit_is (n % 10) small) refl);
      value = last_digit ds (n / 10) (n % 10) d.value small ∙ (let whole : 10 * (n / 10) + n % 10 ≡ n = omega arith in whole);
      some = begins_more is_digit ds ((48 + n % 10) ∷ []) d.some;
      nonzero = λ g. begins_more is_nonzero ds ((48 + n % 10) ∷ []) first;
      plain = plain_first (ds ++ (48 + n % 10) ∷ []) (begins_more is_nonzero ds ((48 + n % 10) ∷ []) first);
    }

pub decimal_written : (n : ℕ) → n < 10 ^ 64 → IsDecimal n (decimal n)
decimal_written n h = decimal_by_steps_wide IsDecimal one_digit more_digits n h

-- a front of bytes that pass, where the rest doesn't go on with one
pub front_passes : (p : ℕ → Bool) (xs rest : List ℕ) → list_all p xs ≡ true → begins p rest ≡ false → prefix_len p (xs ++ rest) ≡ length xs
front_passes p [] [] h b = refl
front_passes p [] (y ∷ rest) h b = cond_false (p y) (1 + prefix_len p rest) 0 b
front_passes p (x ∷ xs) rest h b =
    let q = and_parts (p x) (list_all p xs) h in
    cond_true (p x) (1 + prefix_len p (xs ++ rest)) 0 q.0 ∙ ap (λ n. 1 + n) (front_passes p xs rest q.1 b) ∙ (let same : 1 + length xs ≡ suc (length xs) = omega arith in same)

pub front_taken : (p : ℕ → Bool) (xs rest : List ℕ) → list_all p xs ≡ true → begins p rest ≡ false → take (prefix_len p (xs ++ rest)) (xs ++ rest) ≡ xs
front_taken p xs rest h b = ap (λ n. take n (xs ++ rest)) (front_passes p xs rest h b) ∙ take-append_seam xs rest

pub front_dropped : (p : ℕ → Bool) (xs rest : List ℕ) → list_all p xs ≡ true → begins p rest ≡ false → drop (prefix_len p (xs ++ rest)) (xs ++ rest) ≡ rest
front_dropped p xs rest h b = ap (λ n. drop n (xs ++ rest)) (front_passes p xs rest h b) ∙ drop-append_seam xs rest
