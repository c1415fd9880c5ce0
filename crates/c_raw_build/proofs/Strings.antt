-- Strings give bytes.
use Rattle.std.proofs.Common.{◌≡◌, ◌-◌, ℕ, suc, List, [], ◌∷◌, length, take, refl, ap, ◌∙◌, arith}
use Rattle.std.specs.Prelude.{Bool, true, false, not, ◌==◌, ◌&&◌, ◌||◌, if◌then◌else◌, nat_lt, nat_le}
use Rattle.std.proofs.lemmas.Bool.{and_parts, and_from, lt-ltb}
use Rattle.va_base.specs.Spelling.{is_digit, is_letter, is_empty}
use Rattle.va_base.proofs.Tests.{true_not_false}
use Rattle.c_tree.specs.Words.{Word}
use Rattle.c_tree.specs.Spelling.{are_bytes}
use Rattle.c_tree.specs.declared.token.CTokenKind.{CTokenKind}
use Rattle.c_tree.specs.declared.token.CTokenKind.TheVariants.{Include, Word as OfWord, Field, Integer, Unsigned, Real, Text, Mark}
use Rattle.c_tree.specs.tokens.Spelling.{is_token, token_kind, number_kind, tail_kind, is_plain, is_escape, octal_value, is_string_rest, is_escape_then, is_octal_digit}
use Rattle.c_tree.specs.tokens.Limits.{tail_of}
use Rattle.c_syntax.proofs.Longest.{cond_true, cond_false}
use Rattle.c_raw_build.specs.Words.{octal, string_bytes, between_quotes}
use Rattle.c_raw_build.specs.Due.{IsOfKind}
use Rattle.c_raw_build.proofs.WordKinds.{token_is}
use Rattle.c_raw_build.proofs.Numbers.{le_of, rest_kind}

plain_first : (a : ℕ) (rest : List ℕ) → (a == 92) ≡ false → string_bytes (a ∷ rest) ≡ a ∷ string_bytes rest
plain_first a [] h = refl
plain_first a (b ∷ []) h = refl
plain_first a (b ∷ c ∷ []) h = refl
plain_first a (b ∷ c ∷ d ∷ rest) h = cond_false (a == 92) _ _ h

-- bytes but for the last
abbrev inner : List ℕ → List ℕ
inner [] = []
inner (c ∷ []) = []
inner (c ∷ d ∷ rest) = c ∷ inner (d ∷ rest)

inner_taken : (xs : List ℕ) → take (length xs - 1) xs ≡ inner xs
inner_taken [] = refl
inner_taken (c ∷ []) = refl
inner_taken (c ∷ d ∷ rest) =
    ap (λ n. take n (c ∷ d ∷ rest)) (let same : suc (suc (length rest)) - 1 ≡ suc (suc (length rest) - 1) = omega arith in same)
    ∙ ap (λ l. c ∷ l) (inner_taken (d ∷ rest))

octal_few : (c d e : ℕ) → is_escape c d e ≡ true → nat_lt (octal c d e) 256 ≡ true
octal_few c d e h =
    let digits = is_octal_digit c && is_octal_digit d && is_octal_digit e in
    let p = and_parts (digits && nat_le (octal_value c d e) 255) (not (is_plain (octal_value c d e))) h in
    let le = le_of (octal_value c d e) 255 (and_parts digits (nat_le (octal_value c d e) 255) p.0).1 in
    lt-ltb (octal c d e) 256 (omega (arith, le))

plain_few : (c : ℕ) → is_plain c ≡ true → nat_lt c 256 ≡ true
plain_few c h =
    let p = and_parts (nat_le 32 c && nat_le c 126) (not (c == 34 || c == 63 || c == 92 || c == 96)) h in
    let le = le_of c 126 (and_parts (nat_le 32 c) (nat_le c 126) p.0).1 in
    lt-ltb c 256 (omega (arith, le))

-- a string's first byte, and the string behind it
by_first : (q e : Bool) (c d : ℕ) (rest : List ℕ) → (c == 92) ≡ e
    → (if q then is_empty (d ∷ rest) else (if e then is_escape_then (d ∷ rest) else is_plain c && is_string_rest (d ∷ rest))) ≡ true
    → (is_string_rest (d ∷ rest) ≡ true → are_bytes (string_bytes (inner (d ∷ rest))) ≡ true)
    → ((c == 92) ≡ true → is_escape_then (d ∷ rest) ≡ true → are_bytes (string_bytes (c ∷ inner (d ∷ rest))) ≡ true)
    → are_bytes (string_bytes (c ∷ inner (d ∷ rest))) ≡ true
by_first true e c d rest f h more escape = absurd (true_not_false h refl)
by_first false true c d rest f h more escape = escape f h
by_first false false c d rest f h more escape =
    let p = and_parts (is_plain c) (is_string_rest (d ∷ rest)) h in
    ap are_bytes (plain_first c (inner (d ∷ rest)) f) ∙ and_from (nat_lt c 256) (are_bytes (string_bytes (inner (d ∷ rest)))) (plain_few c p.0) (more p.1)

mutual
  quoted : (rest : List ℕ) → is_string_rest rest ≡ true → are_bytes (string_bytes (inner rest)) ≡ true
  quoted [] h = absurd (true_not_false h refl)
  quoted (c ∷ []) h = refl
  quoted (c ∷ d ∷ rest) h = by_first (c == 34) (c == 92) c d rest refl h (quoted (d ∷ rest)) (escaped c d rest)

  escaped : (c d : ℕ) (rest : List ℕ) → (c == 92) ≡ true → is_escape_then (d ∷ rest) ≡ true → are_bytes (string_bytes (c ∷ inner (d ∷ rest))) ≡ true
  escaped c d [] f h = absurd (true_not_false h refl)
  escaped c d (e ∷ []) f h = absurd (true_not_false h refl)
  escaped c d (e ∷ g ∷ []) f h = absurd (true_not_false (and_parts (is_escape d e g) false h).1 refl)
  escaped c d (e ∷ g ∷ i ∷ rest) f h =
      let p = and_parts (is_escape d e g) (is_string_rest (i ∷ rest)) h in
      let more = string_bytes (inner (i ∷ rest)) in
      ap are_bytes (cond_true (c == 92) (octal d e g ∷ more) (c ∷ string_bytes (d ∷ e ∷ g ∷ inner (i ∷ rest))) f)
      ∙ and_from (nat_lt (octal d e g) 256) (are_bytes more) (octal_few d e g p.0) (quoted (i ∷ rest) p.1)

string_word : (w : Word) → token_kind w ≡ Text → is_token w ≡ true → are_bytes (string_bytes (between_quotes w)) ≡ true
string_word [] k t = absurd (true_not_false t refl)
string_word (c ∷ rest) k t = by_tests _ _ _ _ _ (is_letter c) (is_digit c) (c == 35) (c == 46) (c == 34) k t
  where
    is_string : CTokenKind → Bool
    is_string Include = false
    is_string OfWord = false
    is_string Field = false
    is_string Integer = false
    is_string Unsigned = false
    is_string Real = false
    is_string Text = true
    is_string Mark = false

    no_tail : (xs : List ℕ) → is_string (tail_kind xs) ≡ false
    no_tail [] = refl
    no_tail (x ∷ xs) = by_test (x == 117)
      where
        by_test : (b : Bool) → is_string (if b then Unsigned else Real) ≡ false
        by_test true = refl
        by_test false = refl

    taken : take (length (c ∷ rest) - 2) rest ≡ inner rest
    taken = ap (λ n. take n rest) (let same : suc (length rest) - 2 ≡ length rest - 1 = omega arith in same) ∙ inner_taken rest

    by_tests : (a b i n m l d s f q : Bool)
        → (if l then OfWord else (if d then number_kind rest else (if s then Include else (if f then Field else (if q then Text else Mark))))) ≡ Text
        → (if l then a else (if d then b else (if s then i else (if f then n else (if q then is_string_rest rest else m))))) ≡ true
        → are_bytes (string_bytes (between_quotes (c ∷ rest))) ≡ true
    by_tests a b i n m true d s f q k t = absurd (true_not_false (ap is_string k) refl)
    by_tests a b i n m false true s f q k t = absurd (true_not_false (ap is_string k) (ap is_string (rest_kind rest) ∙ no_tail (tail_of rest)))
    by_tests a b i n m false false true f q k t = absurd (true_not_false (ap is_string k) refl)
    by_tests a b i n m false false false true q k t = absurd (true_not_false (ap is_string k) refl)
    by_tests a b i n m false false false false true k t = ap (λ l. are_bytes (string_bytes l)) taken ∙ quoted rest t
    by_tests a b i n m false false false false false k t = absurd (true_not_false (ap is_string k) refl)

pub string_value : (w : Word) → IsOfKind 7 w → are_bytes (string_bytes (between_quotes w)) ≡ true
string_value w h = string_word w (token_is Text 7 w refl h) h.token
