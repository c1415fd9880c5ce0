-- Numbers: their digits, their tails, and their kinds.
use Rattle.std.proofs.Common.{◌≡◌, ◌<◌, ◌+◌, ℕ, zero, suc, List, [], ◌∷◌, length, take, drop, refl, ap, sym, ◌∙◌, arith, Some, None}
use Rattle.std.specs.Prelude.{Bool, true, false, ◌==◌, ◌&&◌, cond, nat_eq, IsTrue}
use Rattle.std.specs.List.{list_all, prefix_len}
use Rattle.std.proofs.lemmas.Bool.{eqb-true, eq-eqb}
use Rattle.va_base.specs.Longest.{one_more, longest}
use Rattle.va_base.specs.Spelling.{is_empty, are_some, is_digit, begins}
use Rattle.va_base.proofs.Longest.{longest-cons, longest-nil}
use Rattle.va_base.proofs.Numerals.{longest-is_empty}
use Rattle.va_base.proofs.Tests.{not_true, true_not_false}
use Rattle.c_tree.specs.tokens.Spelling.{is_power, is_number_tail, is_number_rest, tail_kind, number_kind}
use Rattle.c_tree.specs.tokens.Limits.{is_within}
use Rattle.c_syntax.specs.Fronts.{front, front_of, above_zero}
use Rattle.c_syntax.proofs.Longest.{cond_true, cond_false, rest_of, rest-cons, none_passes, longest-first, longest-some}
use Rattle.c_syntax.proofs.Fronts.{front-number}

number_more : (c : ℕ) (rest : List ℕ) (n : ℕ) (b : Bool) → is_digit c ≡ b
    → longest is_number_tail (drop (cond b (1 + prefix_len is_digit rest) 0) (c ∷ rest)) ≡ Some n
    → ((k : ℕ) → longest is_number_tail (drop (prefix_len is_digit rest) rest) ≡ Some k → longest is_number_rest rest ≡ Some (prefix_len is_digit rest + k))
    → longest is_number_rest (c ∷ rest) ≡ Some (cond b (1 + prefix_len is_digit rest) 0 + n)
number_more c rest n true d e more =
    let m = prefix_len is_digit rest in
    let cut : longest is_number_tail (drop m rest) ≡ Some n =
    ap (λ k. longest is_number_tail (drop k (c ∷ rest))) (let one : suc m ≡ 1 + m = omega arith in one) ∙ e in
    longest-cons is_number_rest is_number_rest c rest (λ xs. cond_true (is_digit c) _ _ d)
    ∙ ap (one_more true) (more n cut) ∙ ap (λ k. Some k) (let same : suc (m + n) ≡ 1 + m + n = omega arith in same)
number_more c rest n false d e more =
    longest-first is_number_rest is_number_tail c rest (λ xs. cond_false (is_digit c) _ _ d) refl
    ∙ e ∙ ap (λ k. Some k) (let same : n ≡ 0 + n = omega arith in same)

-- digits, and the longest tail behind them
pub number-rest : (rest : List ℕ) (n : ℕ) → longest is_number_tail (drop (prefix_len is_digit rest) rest) ≡ Some n
    → longest is_number_rest rest ≡ Some (prefix_len is_digit rest + n)
number-rest [] n e =
    longest-nil is_number_rest [] refl ∙ sym (longest-nil is_number_tail [] refl) ∙ e ∙ ap (λ k. Some k) (let same : n ≡ 0 + n = omega arith in same)
number-rest (c ∷ rest) n e = number_more c rest n (is_digit c) refl e (number-rest rest)

kind_tail : (c : ℕ) (rest : List ℕ) (t : ℕ) → is_digit c ≡ false → number_kind (take t (c ∷ rest)) ≡ tail_kind (take t (c ∷ rest))
kind_tail c rest zero d = refl
kind_tail c rest (suc t) d = cond_false (is_digit c) _ _ d

kind_more : (c : ℕ) (rest : List ℕ) (t : ℕ) (b : Bool) → is_digit c ≡ b
    → number_kind (take (prefix_len is_digit rest + t) rest) ≡ tail_kind (take t (drop (prefix_len is_digit rest) rest))
    → number_kind (take (cond b (1 + prefix_len is_digit rest) 0 + t) (c ∷ rest))
    ≡ tail_kind (take t (drop (cond b (1 + prefix_len is_digit rest) 0) (c ∷ rest)))
kind_more c rest t true d more =
    let m = prefix_len is_digit rest in
    ap (λ k. number_kind (take k (c ∷ rest))) (let one : 1 + m + t ≡ suc (m + t) = omega arith in one)
    ∙ cond_true (is_digit c) _ _ d ∙ more
    ∙ ap (λ k. tail_kind (take t (drop k (c ∷ rest)))) (let one : suc m ≡ 1 + m = omega arith in one)
kind_more c rest t false d more =
    ap (λ k. number_kind (take k (c ∷ rest))) (let same : 0 + t ≡ t = omega arith in same) ∙ kind_tail c rest t d

kind_nil : (t : ℕ) → number_kind (take t []) ≡ tail_kind (take t [])
kind_nil zero = refl
kind_nil (suc t) = refl

-- the kind of a number is that of its tail
pub kind-rest : (rest : List ℕ) (t : ℕ)
    → number_kind (take (prefix_len is_digit rest + t) rest) ≡ tail_kind (take t (drop (prefix_len is_digit rest) rest))
kind-rest [] t = ap (λ k. number_kind (take k [])) (let same : 0 + t ≡ t = omega arith in same) ∙ kind_nil t
kind-rest (c ∷ rest) t = kind_more c rest t (is_digit c) refl (kind-rest rest t)

-- a number in a text: its digits and its tail
pub number-front : (text : List ℕ) (digits t : ℕ) (b : Bool) → IsTrue (begins is_digit text) → digits ≡ prefix_len is_digit text
    → longest is_number_tail (drop digits text) ≡ Some t → is_within (take (digits + t) text) ≡ b
    → front_of text ≡ cond b (Some (front (tail_kind (take t (drop digits text))) (digits + t))) None
number-front [] digits t b e d l w = absurd (true_not_false e refl)
number-front (c ∷ rest) digits t b e d l w =
    let m = prefix_len is_digit rest in
    let one : digits ≡ suc m =
    d ∙ cond_true (is_digit c) (1 + m) 0 e ∙ (let more : 1 + m ≡ suc m = omega arith in more) in
    let tail : longest is_number_tail (drop m rest) ≡ Some t = ap (λ k. longest is_number_tail (drop k (c ∷ rest))) (sym one) ∙ l in
    let sum : digits + t ≡ suc (m + t) = omega (arith, one) in
    front-number c rest (m + t) b e (number-rest rest t tail) (ap (λ k. is_within (take k (c ∷ rest))) (sym sum) ∙ w)
    ∙ ap (λ k. cond b (Some (front k (suc (m + t)))) None) (kind-rest rest t ∙ ap (λ k. tail_kind (take t (drop k (c ∷ rest)))) (sym one))
    ∙ ap (λ k. cond b (Some (front (tail_kind (take t (drop digits (c ∷ rest)))) k)) None) (sym sum)

-- tails
pub tail-u : (text : List ℕ) → begins (λ first. first == 117) text ≡ true → longest is_number_tail text ≡ Some 1
tail-u [] e = absurd (true_not_false e refl)
tail-u (c ∷ rest) e =
    longest-cons is_number_tail is_empty c rest (λ xs. cond_true (c == 117) _ _ e) ∙ ap (one_more true) (longest-is_empty rest)

pub tail-nothing : (text : List ℕ) → begins (λ first. first == 117) text ≡ false → begins (λ first. first == 101) text ≡ false
    → longest is_number_tail text ≡ Some 0
tail-nothing [] u e = longest-nil is_number_tail [] refl
tail-nothing (c ∷ rest) u e =
    longest-cons is_number_tail (λ xs. false) c rest (λ xs. cond_false (c == 117) _ _ u ∙ ap (λ b. b && is_power xs) e)
    ∙ ap (one_more true) (none_passes rest)

pub tail-power : (text : List ℕ) (n : ℕ) → begins (λ first. first == 117) text ≡ false → begins (λ first. first == 101) text ≡ true
    → longest is_power (rest_of text) ≡ above_zero n → longest is_number_tail text ≡ one_more true (above_zero n)
tail-power [] n u e l = absurd (true_not_false e refl)
tail-power (c ∷ rest) n u e l =
    longest-cons is_number_tail is_power c rest (λ xs. cond_false (c == 117) _ _ u ∙ ap (λ b. b && is_power xs) e)
    ∙ ap (one_more true) (ap (longest is_power) (sym (rest-cons c rest)) ∙ l)

pub tail-zero : (n : ℕ) → n ≡ 0 → one_more true (above_zero n) ≡ Some 0
tail-zero zero e = refl
tail-zero (suc n) e = absurd (omega (arith, e))

pub tail-some : (n : ℕ) → 0 < n → one_more true (above_zero n) ≡ Some (1 + n)
tail-some zero e = absurd (omega (arith, e))
tail-some (suc n) e = ap (λ k. Some k) (let one : suc (suc n) ≡ 1 + suc n = omega arith in one)

-- powers
pub power-plain : (text : List ℕ) → begins (λ first. first == 45) text ≡ false → longest is_power text ≡ above_zero (prefix_len is_digit text)
power-plain [] e = longest-nil is_power [] refl
power-plain (c ∷ rest) e =
    longest-first is_power (are_some is_digit) c rest (λ xs. ap (are_some is_digit) (cond_false (c == 45) xs (c ∷ xs) e)) refl
    ∙ longest-some is_digit (c ∷ rest)

pub power-minus : (text : List ℕ) → begins (λ first. first == 45) text ≡ true
    → longest is_power text ≡ one_more false (above_zero (prefix_len is_digit (rest_of text)))
power-minus [] e = absurd (true_not_false e refl)
power-minus (c ∷ rest) e =
    longest-cons is_power (are_some is_digit) c rest (λ xs. ap (are_some is_digit) (cond_true (c == 45) xs (c ∷ xs) e))
    ∙ ap (one_more false) (longest-some is_digit rest ∙ ap (λ t. above_zero (prefix_len is_digit t)) (sym (rest-cons c rest)))

pub minus-zero : (n : ℕ) → n ≡ 0 → one_more false (above_zero n) ≡ above_zero 0
minus-zero zero e = refl
minus-zero (suc n) e = absurd (omega (arith, e))

pub minus-some : (n : ℕ) → 0 < n → one_more false (above_zero n) ≡ above_zero (1 + n)
minus-some zero e = absurd (omega (arith, e))
minus-some (suc n) e = ap above_zero (let one : suc (suc n) ≡ 1 + suc n = omega arith in one)

same_less : (m n : ℕ) → nat_eq (1 + m) (suc n) ≡ nat_eq m n
same_less m n = both (nat_eq (1 + m) (suc n)) (nat_eq m n) refl refl
  where
    both : (x y : Bool) → nat_eq (1 + m) (suc n) ≡ x → nat_eq m n ≡ y → x ≡ y
    both true true e f = refl
    both false false e f = refl
    both true false e f = absurd (true_not_false (eq-eqb m n (let same = eqb-true (1 + m) (suc n) e in omega (arith, same))) f)
    both false true e f = absurd (true_not_false (eq-eqb (1 + m) (suc n) (let same = eqb-true m n f in omega (arith, same))) e)

none_same : (n : ℕ) → nat_eq 0 (suc n) ≡ false
none_same n = not_true _ (λ e. let same = eqb-true 0 (suc n) e in omega (arith, same))

-- all bytes pass exactly where as many pass as there are
all_first : (b : Bool) (p : ℕ → Bool) (rest : List ℕ) → nat_eq (prefix_len p rest) (length rest) ≡ list_all p rest
    → nat_eq (cond b (1 + prefix_len p rest) 0) (suc (length rest)) ≡ (b && list_all p rest)
all_first true p rest e = same_less (prefix_len p rest) (length rest) ∙ e
all_first false p rest e = none_same (length rest)

pub all-pass : (p : ℕ → Bool) (bytes : List ℕ) → nat_eq (prefix_len p bytes) (length bytes) ≡ list_all p bytes
all-pass p [] = refl
all-pass p (c ∷ rest) = all_first (p c) p rest (all-pass p rest)
