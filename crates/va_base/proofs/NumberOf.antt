-- The number that digits give, from the front on.
use Rattle.std.proofs.Common.{◌≡◌, ◌<◌, ◌≤◌, ◌+◌, ◌-◌, ◌*◌, ℕ, List, [], ◌∷◌, length, take, drop, get_or, refl, ap, sym, ◌∙◌, arith, fold}
use Rattle.std.specs.Prelude.{Bool, true, false, if◌then◌else◌}
use Rattle.std.proofs.lemmas.List.{take-append-drop}
use Rattle.std.proofs.lemmas.List.Sums.{fold-append, fold_more}
use Rattle.va_base.specs.Spelling.{is_digit}
use Rattle.va_base.specs.Numerals.{number_of}

abbrev pub next_number : ℕ → ℕ → ℕ
next_number number byte = if is_digit byte then 10 * number + (byte - 48) else number

pub number_of-fold : (xs : List ℕ) → number_of xs ≡ fold next_number 0 xs
unfolding number_of
number_of-fold xs = refl

pub number_of-nil : number_of [] ≡ 0
unfolding number_of
number_of-nil = refl

step_grows : (b : Bool) (n d : ℕ) → n ≤ (if b then 10 * n + d else n)
step_grows true n d = omega arith
step_grows false n d = omega arith

fold_grows : (a : ℕ) (xs : List ℕ) → a ≤ fold next_number a xs
fold_grows a [] = omega arith
fold_grows a (x ∷ xs) =
    let more : next_number a x ≤ fold next_number (next_number a x) xs = fold_grows (next_number a x) xs in
    let step : a ≤ next_number a x = step_grows (is_digit x) a (x - 48) in
    omega arith

-- a front gives no greater number
pub number_of-take-le : (i : ℕ) (xs : List ℕ) → number_of (take i xs) ≤ number_of xs
number_of-take-le i xs =
    let whole : number_of xs ≡ fold next_number (fold next_number 0 (take i xs)) (drop i xs) =
    number_of-fold xs ∙ ap (fold next_number 0) (sym (take-append-drop i xs)) ∙ fold-append next_number 0 (take i xs) (drop i xs) in
    let grows = fold_grows (fold next_number 0 (take i xs)) (drop i xs) in
    let front : number_of (take i xs) ≡ fold next_number 0 (take i xs) = number_of-fold (take i xs) in
    omega arith

-- one byte more
pub number_of_more : (i : ℕ) (xs : List ℕ) → i < length xs
    → number_of (take (i + 1) xs) ≡ next_number (number_of (take i xs)) (get_or xs i 0)
number_of_more i xs lt =
    number_of-fold (take (i + 1) xs) ∙ fold_more next_number 0 xs i 0 lt
    ∙ ap (λ n. next_number n (get_or xs i 0)) (sym (number_of-fold (take i xs)))

pub number_of_digit : (i : ℕ) (xs : List ℕ) → i < length xs → is_digit (get_or xs i 0) ≡ true
    → number_of (take (i + 1) xs) ≡ 10 * number_of (take i xs) + (get_or xs i 0 - 48)
number_of_digit i xs lt d = number_of_more i xs lt ∙ rw d refl

pub number_of_other : (i : ℕ) (xs : List ℕ) → i < length xs → is_digit (get_or xs i 0) ≡ false
    → number_of (take (i + 1) xs) ≡ number_of (take i xs)
number_of_other i xs lt d = number_of_more i xs lt ∙ rw d refl
