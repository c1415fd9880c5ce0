-- The numbers that words give are within the limits of their tokens.
use Rattle.std.proofs.Common.{◌≡◌, ◌≤◌, ◌+◌, ◌-◌, ◌*◌, ◌^◌, ℕ, suc, List, [], ◌∷◌, ◌++◌, take, drop, refl, ap, sym, subst, ◌∙◌, arith, Some, None, eqb-true}
use Rattle.std.specs.Prelude.{Bool, true, false, not, ◌==◌, ◌&&◌, if◌then◌else◌, nat_le, fold, cond}
use Rattle.std.specs.List.{list_all, prefix_len, filter}
use Rattle.std.specs.Option.{is_some, unwrap_or}
use Rattle.std.proofs.lemmas.Bool.{and_parts, and_from, lt-ltb}
use Rattle.std.proofs.lemmas.Bool.Decides.{nat_tests}
use Rattle.std.proofs.lemmas.List.{take-append-drop, append-nil}
use Rattle.std.proofs.lemmas.List.Sums.{fold-append}
use Rattle.va_base.specs.Spelling.{is_digit, is_digit_byte, is_letter, is_empty, is_numeral, begins}
use Rattle.va_base.specs.Numerals.{number_of, is_mantissa_byte, mantissa_of, value_of, is_within_limits, decimal_of}
use Rattle.va_base.proofs.NumberOf.{next_number, number_of-fold}
use Rattle.va_base.proofs.Tests.{true_not_false, or_left}
use Rattle.c_tree.specs.Words.{Word}
use Rattle.c_tree.specs.Spelling.{is_unsigned, is_integer}
use Rattle.c_tree.specs.declared.token.CTokenKind.{CTokenKind}
use Rattle.c_tree.specs.declared.token.CTokenKind.TheVariants.{Include, Word as OfWord, Field, Integer, Unsigned, Real, Text, Mark}
use Rattle.c_tree.specs.tokens.Spelling.{is_token, token_kind, number_kind, tail_kind, is_number_rest, is_number_tail}
use Rattle.c_tree.specs.tokens.Limits.{has_no_leading_zero, is_at_most, digits_of, tail_of, is_plain_power, is_tail_within, is_within}
use Rattle.c_syntax.specs.grammar.Kinds.{is_number_in_name, is_no_digit}
use Rattle.c_syntax.proofs.Longest.{cond_true, cond_false}
use Rattle.c_raw_build.specs.Words.{number_zero}
use Rattle.c_raw_build.proofs.Fronts.{front_taken, weaker}
use Rattle.c_raw_build.specs.Due.{IsOfKind}
use Rattle.c_raw_build.proofs.WordKinds.{may_have, all_kinds, token_is}

-- bytes that pass, as many as stand in front
pub front_all : (p : ℕ → Bool) (xs : List ℕ) → list_all p (take (prefix_len p xs) xs) ≡ true
front_all p [] = refl
front_all p (x ∷ xs) = by_test (p x) refl (front_all p xs)
  where
    by_test : (b : Bool) → p x ≡ b → list_all p (take (prefix_len p xs) xs) ≡ true → list_all p (take (cond b (1 + prefix_len p xs) 0) (x ∷ xs)) ≡ true
    by_test true e rest =
        ap (λ n. list_all p (take n (x ∷ xs))) (let same : 1 + prefix_len p xs ≡ suc (prefix_len p xs) = omega arith in same)
        ∙ and_from (p x) (list_all p (take (prefix_len p xs) xs)) e rest
    by_test false e rest = refl

-- bytes that are no digits give nothing
silent : (xs : List ℕ) (a : ℕ) → list_all is_no_digit xs ≡ true → fold next_number a xs ≡ a
silent [] a h = refl
silent (x ∷ xs) a h =
    let p = and_parts (is_no_digit x) (list_all is_no_digit xs) h in
    ap (λ n. fold next_number n xs) (cond_false (is_digit x) (10 * a + (x - 48)) a (not_is (is_digit x) p.0)) ∙ silent xs a p.1
  where
    not_is : (b : Bool) → not b ≡ true → b ≡ false
    not_is true e = absurd (true_not_false e refl)
    not_is false e = refl

digits_before : (ds tail : List ℕ) → list_all is_no_digit tail ≡ true → number_of (ds ++ tail) ≡ number_of ds
digits_before ds tail h = number_of-fold (ds ++ tail) ∙ fold-append next_number 0 ds tail ∙ silent tail (fold next_number 0 ds) h ∙ sym (number_of-fold ds)

pub digits_behind : (name ds : List ℕ) → list_all is_no_digit name ≡ true → number_of (name ++ ds) ≡ number_of ds
digits_behind name ds h =
    number_of-fold (name ++ ds) ∙ fold-append next_number 0 name ds ∙ ap (λ n. fold next_number n ds) (silent name 0 h) ∙ sym (number_of-fold ds)

-- digits that stand for at most some number give at most that
pub le_of : (m n : ℕ) → nat_le m n ≡ true → m ≤ n
le_of m n h = grind (arith, nat_tests)

mantissa_is : (ds : List ℕ) → list_all is_digit ds ≡ true → (value_of ds).mantissa ≡ number_of ds
unfolding value_of
mantissa_is ds all =
    let bytes = weaker is_digit is_mantissa_byte (λ x e. or_left (is_digit_byte x) (x == 46) (or_left (is_digit x) (x == 95) e)) ds all in
    ap number_of (ap mantissa_of (sym (append-nil ds)) ∙ front_taken is_mantissa_byte ds [] bytes refl)

decimal_few : (limit : ℕ) (ds : List ℕ) → list_all is_digit ds ≡ true → is_at_most limit (decimal_of ds) ≡ true → number_of ds ≤ limit
unfolding decimal_of
decimal_few limit ds all h = by_test (is_numeral ds && is_within_limits (value_of ds)) h
  where
    by_test : (b : Bool) → is_at_most limit (if b then Some (value_of ds) else None) ≡ true → number_of ds ≤ limit
    by_test true h = subst (λ n. n ≤ limit) (mantissa_is ds all) (le_of (value_of ds).mantissa limit h)
    by_test false h = absurd (true_not_false h refl)

unsigned_few : (n : ℕ) → n ≤ 4294967295 → is_unsigned n ≡ true
unsigned_few n h = lt-ltb n (2 ^ 32) (omega (arith, h))

integer_few : (n : ℕ) → n ≤ 2147483647 → is_integer n ≡ true
integer_few n h = lt-ltb n (2 ^ 31) (omega (arith, h))

pub name_number : (ds : List ℕ) → is_number_in_name ds ≡ true → is_unsigned (number_of ds) ≡ true
name_number ds h =
    let front = not (is_empty ds) && list_all is_digit ds in
    let p = and_parts (front && has_no_leading_zero ds) (is_at_most 4294967295 (decimal_of ds)) h in
    let q = and_parts front (has_no_leading_zero ds) p.0 in
    let all = (and_parts (not (is_empty ds)) (list_all is_digit ds) q.0).1 in
    unsigned_few (number_of ds) (decimal_few 4294967295 ds all p.1)

-- Numbers.
abbrev is_number_token : CTokenKind → Bool
is_number_token Include = false
is_number_token OfWord = false
is_number_token Field = false
is_number_token Integer = true
is_number_token Unsigned = true
is_number_token Real = true
is_number_token Text = false
is_number_token Mark = false

abbrev is_unsigned_token : CTokenKind → Bool
is_unsigned_token Include = false
is_unsigned_token OfWord = false
is_unsigned_token Field = false
is_unsigned_token Integer = false
is_unsigned_token Unsigned = true
is_unsigned_token Real = false
is_unsigned_token Text = false
is_unsigned_token Mark = false

abbrev is_real_token : CTokenKind → Bool
is_real_token Include = false
is_real_token OfWord = false
is_real_token Field = false
is_real_token Integer = false
is_real_token Unsigned = false
is_real_token Real = true
is_real_token Text = false
is_real_token Mark = false

pub rest_kind : (xs : List ℕ) → number_kind xs ≡ tail_kind (tail_of xs)
rest_kind [] = refl
rest_kind (c ∷ rest) = by_test (is_digit c) (rest_kind rest)
  where
    by_test : (b : Bool) → number_kind rest ≡ tail_kind (tail_of rest) → (if b then number_kind rest else tail_kind (c ∷ rest)) ≡ tail_kind (drop (cond b (1 + prefix_len is_digit rest) 0) (c ∷ rest))
    by_test true more =
        more ∙ ap (λ n. tail_kind (drop n (c ∷ rest))) (let same : suc (prefix_len is_digit rest) ≡ 1 + prefix_len is_digit rest = omega arith in same)
    by_test false more = refl

rest_is : (xs : List ℕ) → is_number_rest xs ≡ is_number_tail (tail_of xs)
rest_is [] = refl
rest_is (c ∷ rest) = by_test (is_digit c) (rest_is rest)
  where
    by_test : (b : Bool) → is_number_rest rest ≡ is_number_tail (tail_of rest) → (if b then is_number_rest rest else is_number_tail (c ∷ rest)) ≡ is_number_tail (drop (cond b (1 + prefix_len is_digit rest) 0) (c ∷ rest))
    by_test true more =
        more ∙ ap (λ n. is_number_tail (drop n (c ∷ rest))) (let same : suc (prefix_len is_digit rest) ≡ 1 + prefix_len is_digit rest = omega arith in same)
    by_test false more = refl

-- what is known of a number
record NumberWord (w : Word) (k : CTokenKind) : Type 0 where
  digit : begins is_digit w ≡ true
  tail_is : tail_kind (tail_of w) ≡ k
  tail_passes : is_number_tail (tail_of w) ≡ true

number_word : (w : Word) (k : CTokenKind) → is_number_token k ≡ true → token_kind w ≡ k → is_token w ≡ true → NumberWord w k
number_word [] k n h t = absurd (true_not_false t refl)
number_word (c ∷ rest) k n h t = by_tests _ _ (is_letter c) (is_digit c) refl refl h t
  where
    other : (i f q : Bool) → is_number_token (if i then Include else (if f then Field else (if q then Text else Mark))) ≡ false
    other true f q = refl
    other false true q = refl
    other false false true = refl
    other false false false = refl

    by_tests : (a b l d : Bool) → is_letter c ≡ l → is_digit c ≡ d
        → (if l then OfWord else (if d then number_kind rest else (if c == 35 then Include else (if c == 46 then Field else (if c == 34 then Text else Mark))))) ≡ k
        → (if l then a else (if d then is_number_rest rest else b)) ≡ true → NumberWord (c ∷ rest) k
    by_tests a b true d e f h t = absurd (true_not_false n (ap is_number_token (sym h)))
    by_tests a b false true e f h t =
        record {
          digit = f;
          tail_is = sym (rest_kind (c ∷ rest)) ∙ cond_true (is_digit c) (number_kind rest) (tail_kind (c ∷ rest)) f ∙ h;
          tail_passes = sym (rest_is (c ∷ rest)) ∙ cond_true (is_digit c) (is_number_rest rest) (is_number_tail (c ∷ rest)) f ∙ t;
        }
    by_tests a b false false e f h t = absurd (true_not_false n (ap is_number_token (sym h) ∙ other (c == 35) (c == 46) (c == 34)))

empty_is : (xs : List ℕ) → is_empty xs ≡ true → xs ≡ []
empty_is [] h = refl
empty_is (x ∷ xs) h = absurd (true_not_false h refl)

unsigned_tail : (w : Word) (tail : List ℕ) → digits_of w ++ tail ≡ w → tail_kind tail ≡ Unsigned → is_number_tail tail ≡ true
    → is_tail_within w (digits_of w) tail ≡ true → is_unsigned (number_of w) ≡ true
unsigned_tail w [] whole k t h = absurd (true_not_false (ap is_unsigned_token k) refl)
unsigned_tail w (d ∷ power) whole k t h = by_test _ _ (d == 117) refl k t h
  where
    no_digit : (c : ℕ) → (c == 117) ≡ true → is_no_digit c ≡ true
    no_digit c e = subst (λ n. is_no_digit n ≡ true) (sym (eqb-true c 117 e)) refl

    by_test : (a b u : Bool) → (d == 117) ≡ u → (if u then Unsigned else Real) ≡ Unsigned → (if u then is_empty power else a) ≡ true
        → (if u then is_at_most 4294967295 (decimal_of (digits_of w)) else b) ≡ true → is_unsigned (number_of w) ≡ true
    by_test a b true e k t h =
        let none = empty_is power t in
        let quiet : list_all is_no_digit (d ∷ power) ≡ true = subst (λ l. list_all is_no_digit (d ∷ l) ≡ true) (sym none) (and_from (is_no_digit d) true (no_digit d e) refl) in
        let same : number_of w ≡ number_of (digits_of w) = ap number_of (sym whole) ∙ digits_before (digits_of w) (d ∷ power) quiet in
        subst (λ n. is_unsigned n ≡ true) (sym same) (unsigned_few (number_of (digits_of w)) (decimal_few 4294967295 (digits_of w) (front_all is_digit w) h))
    by_test a b false e k t h = absurd (true_not_false (ap is_unsigned_token k) refl)

integer_tail : (w : Word) (tail : List ℕ) → digits_of w ++ tail ≡ w → tail_kind tail ≡ Integer → is_tail_within w (digits_of w) tail ≡ true
    → is_integer (number_of w) ≡ true
integer_tail w [] whole k h =
    let same : number_of w ≡ number_of (digits_of w) = ap number_of (sym whole) ∙ digits_before (digits_of w) [] refl in
    subst (λ n. is_integer n ≡ true) (sym same) (integer_few (number_of (digits_of w)) (decimal_few 2147483647 (digits_of w) (front_all is_digit w) h))
integer_tail w (d ∷ power) whole k h = absurd (by_test (d == 117) k)
  where
    is_whole : CTokenKind → Bool
    is_whole Include = false
    is_whole OfWord = false
    is_whole Field = false
    is_whole Integer = true
    is_whole Unsigned = false
    is_whole Real = false
    is_whole Text = false
    is_whole Mark = false

    by_test : (u : Bool) → (if u then Unsigned else Real) ≡ Integer → ⊥
    by_test true k = true_not_false (ap is_whole k) refl
    by_test false k = true_not_false (ap is_whole k) refl

within_tail : (w : Word) → is_within w ≡ true → is_tail_within w (digits_of w) (tail_of w) ≡ true
within_tail w h = (and_parts (has_no_leading_zero (digits_of w)) (is_tail_within w (digits_of w) (tail_of w)) h).1

unsigned_found : (k : ℕ) (w : Word) → token_kind w ≡ Unsigned → IsOfKind k w → is_unsigned (number_of w) ≡ true
unsigned_found k w t h =
    let n = number_word w Unsigned refl t h.token in
    unsigned_tail w (tail_of w) (take-append-drop (prefix_len is_digit w) w) n.tail_is n.tail_passes (within_tail w (h.within n.digit))

integer_found : (k : ℕ) (w : Word) → token_kind w ≡ Integer → IsOfKind k w → is_integer (number_of w) ≡ true
integer_found k w t h =
    let n = number_word w Integer refl t h.token in
    integer_tail w (tail_of w) (take-append-drop (prefix_len is_digit w) w) n.tail_is (within_tail w (h.within n.digit))

pub unsigned_value : (k : ℕ) (w : Word) → filter (λ kind. may_have kind k) all_kinds ≡ Unsigned ∷ [] → IsOfKind k w → is_unsigned (number_of w) ≡ true
unsigned_value k w only h = unsigned_found k w (token_is Unsigned k w only h) h

pub integer_value : (k : ℕ) (w : Word) → filter (λ kind. may_have kind k) all_kinds ≡ Integer ∷ [] → IsOfKind k w → is_integer (number_of w) ≡ true
integer_value k w only h = integer_found k w (token_is Integer k w only h) h

real_tail : (w : Word) (tail : List ℕ) → tail_kind tail ≡ Real → is_tail_within w (digits_of w) tail ≡ true → is_some (decimal_of w) ≡ true
real_tail w [] k h = absurd (true_not_false (ap is_real_token k) refl)
real_tail w (d ∷ power) k h = by_test (d == 117) k h
  where
    by_test : (u : Bool) → (if u then Unsigned else Real) ≡ Real → (if u then is_at_most 4294967295 (decimal_of (digits_of w)) else is_plain_power power && is_some (decimal_of w)) ≡ true
        → is_some (decimal_of w) ≡ true
    by_test true k h = absurd (true_not_false (ap is_real_token k) refl)
    by_test false k h = (and_parts (is_plain_power power) (is_some (decimal_of w)) h).1

real_found : (w : Word) → token_kind w ≡ Real → IsOfKind 10 w → is_some (decimal_of w) ≡ true
real_found w t h =
    let n = number_word w Real refl t h.token in
    real_tail w (tail_of w) n.tail_is (within_tail w (h.within n.digit))

-- a real within the limits has a value
pub real_spelled : (w : Word) → IsOfKind 10 w → is_some (decimal_of w) ≡ true
real_spelled w h = real_found w (token_is Real 10 w refl h) h

pub real_value : (w : Word) → is_within_limits (unwrap_or (decimal_of w) number_zero) ≡ true
unfolding decimal_of
real_value w = by_tests (is_numeral w) (is_within_limits (value_of w)) refl
  where
    by_tests : (a b : Bool) → is_within_limits (value_of w) ≡ b → is_within_limits (unwrap_or (if a && b then Some (value_of w) else None) number_zero) ≡ true
    by_tests true true e = e
    by_tests true false e = refl
    by_tests false b e = refl
