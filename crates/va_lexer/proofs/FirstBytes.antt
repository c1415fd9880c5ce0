-- What a piece may be, by its first byte.
use Rattle.std.proofs.Common.{◌≡◌, ◌<◌, ◌≤◌, ◌+◌, ◌-◌, ℕ, zero, suc, List, [], ◌∷◌, length, take, drop, get_or, refl, ap, sym, ◌∙◌, arith, Option, Some, None, subst, inl, inr, ◌⊎◌, eqb}
use Rattle.std.specs.Prelude.{Bool, true, false, not, ◌==◌, ◌&&◌, ◌||◌, cond, codes}
use Rattle.std.specs.List.{list_all, list_any, slice_split, prefix_len, take_while}
use Rattle.std.specs.Str.{bytes_eq}
use Rattle.std.proofs.lemmas.Bool.{eqb-true}
use Rattle.std.proofs.lemmas.Bool.Decides.{nat_tests}
use Rattle.va_base.specs.Spelling.{byte_then, is_empty, is_letter, is_digit, is_digit_byte, is_word_byte, is_simple_word, is_escaped_word, is_system, is_tick, is_text, is_newline, are_digits, is_numeral, is_single_mark, is_double_mark, is_mark, begins}
use Rattle.va_base.proofs.Tests.{not_true, true_not_false, and_left, and_right, and_true, and_false, or_left, or_right, or_cases, or_false}
use Rattle.va_lexer.specs.Separators.{is_blank, is_white_space, is_line_comment, is_block_comment, is_continued_line}
use Rattle.va_lexer.specs.Pieces.{is_piece, is_open_comment, is_open_text}

pub or_nothing : (b : Bool) → b || false ≡ b
or_nothing true = refl
or_nothing false = refl

pub no_left : (a b : Bool) → a || b ≡ false → a ≡ false
no_left true b e = e
no_left false b e = refl

pub no_right : (a b : Bool) → a || b ≡ false → b ≡ false
no_right true b e = absurd (true_not_false refl e)
no_right false b e = e

-- a byte that is among none of these
not_among : (p : ℕ → Bool) (c : ℕ) (ms : List ℕ) → p c ≡ true → list_any p ms ≡ false → list_any (λ m. m == c) ms ≡ false
not_among p c [] e f = refl
not_among p c (m ∷ ms) e f =
    or_false (m == c) (list_any (λ x. x == c) ms)
    (not_true _ (λ q. true_not_false e (ap p (sym (eqb-true m c q)) ∙ no_left (p m) (list_any p ms) f)))
    (not_among p c ms e (no_right (p m) (list_any p ms) f))

no_double : (p : ℕ → Bool) (c d : ℕ) (ms : List (List ℕ)) → p c ≡ true → list_any (begins p) ms ≡ false → list_any (bytes_eq (c ∷ d ∷ [])) ms ≡ false
no_double p c d [] e f = refl
no_double p c d ([] ∷ ms) e f = no_double p c d ms e f
no_double p c d ((m ∷ more) ∷ ms) e f =
    or_false (eqb c m && bytes_eq (d ∷ []) more) (list_any (bytes_eq (c ∷ d ∷ [])) ms)
    (not_true _ (λ q. true_not_false e
    (ap p (eqb-true c m (and_left (eqb c m) (bytes_eq (d ∷ []) more) q)) ∙ no_left (p m) (list_any (begins p) ms) f)))
    (no_double p c d ms e (no_right (p m) (list_any (begins p) ms) f))

-- bytes that begin no mark
abbrev BeginsNoMark : (ℕ → Bool) → Type 0
BeginsNoMark p =
    (list_any p (codes "()[],;:.=<>+-*/%!?@") ≡ false)
    × (list_any (begins p) (slice_split (λ byte. byte == 32) (codes "== != <= <+ >= ** && || (* *)")) ≡ false)

no_mark : (p : ℕ → Bool) (c : ℕ) (xs : List ℕ) → BeginsNoMark p → p c ≡ true → is_mark (c ∷ xs) ≡ false
no_mark p c [] n e = not_among p c (codes "()[],;:.=<>+-*/%!?@") e n.0
no_mark p c (d ∷ []) n e = no_double p c d (slice_split (λ byte. byte == 32) (codes "== != <= <+ >= ** && || (* *)")) e n.1
no_mark p c (d ∷ f ∷ xs) n e = refl

pub no_mark_letter : (c : ℕ) (xs : List ℕ) → is_letter c ≡ true → is_mark (c ∷ xs) ≡ false
no_mark_letter c xs e = no_mark is_letter c xs (refl, refl) e

pub no_mark_blank : (c : ℕ) (xs : List ℕ) → is_blank c ≡ true → is_mark (c ∷ xs) ≡ false
no_mark_blank c xs e = no_mark is_blank c xs (refl, refl) e

pub no_mark_digit : (c : ℕ) (xs : List ℕ) → is_digit c ≡ true → is_mark (c ∷ xs) ≡ false
no_mark_digit c xs e = no_mark is_digit c xs (refl, refl) e

pub no_mark_quote : (xs : List ℕ) → is_mark (34 ∷ xs) ≡ false
no_mark_quote xs = no_mark (λ byte. byte == 34) 34 xs (refl, refl) refl

pub no_mark_dollar : (xs : List ℕ) → is_mark (36 ∷ xs) ≡ false
no_mark_dollar xs = no_mark (λ byte. byte == 36) 36 xs (refl, refl) refl

pub no_mark_tick : (xs : List ℕ) → is_mark (96 ∷ xs) ≡ false
no_mark_tick xs = no_mark (λ byte. byte == 96) 96 xs (refl, refl) refl

pub no_mark_backslash : (xs : List ℕ) → is_mark (92 ∷ xs) ≡ false
no_mark_backslash xs = no_mark (λ byte. byte == 92) 92 xs (refl, refl) refl

pub no_mark_newline : (xs : List ℕ) → is_mark (10 ∷ xs) ≡ false
no_mark_newline xs = no_mark (λ byte. byte == 10) 10 xs (refl, refl) refl

-- digits begin with one
no_digits : (b : Bool) (n c : ℕ) (xs : List ℕ) → is_digit c ≡ false → are_digits (take (cond b (1 + n) 0) (c ∷ xs)) ≡ false
no_digits false n c xs e = refl
no_digits true n c xs e =
    let one : 1 + n ≡ suc n = omega arith in
    ap (λ k. are_digits (take k (c ∷ xs))) one ∙ rw e refl

pub no_numeral : (c : ℕ) (xs : List ℕ) → is_digit c ≡ false → is_numeral (c ∷ xs) ≡ false
unfolding is_numeral
no_numeral c xs e = rw (no_digits (is_digit_byte c) (prefix_len is_digit_byte xs) c xs e) refl

-- a byte that is none of those that begin one kind of piece alone
pub record IsPlain (c : ℕ) (letter blank digit : Bool) : Type 0 where
  pub letter_is : is_letter c ≡ letter
  pub blank_is : is_blank c ≡ blank
  pub digit_is : is_digit c ≡ digit
  pub newline : (c == 10) ≡ false
  pub quote : (c == 34) ≡ false
  pub dollar : (c == 36) ≡ false
  pub slash : (c == 47) ≡ false
  pub backslash : (c == 92) ≡ false
  pub tick : (c == 96) ≡ false

pub letter_plain : (c : ℕ) → is_letter c ≡ true → IsPlain c true false false
letter_plain c e = record {
  letter_is = e;
  blank_is = grind (arith, nat_tests);
  digit_is = grind (arith, nat_tests);
  newline = grind (arith, nat_tests);
  quote = grind (arith, nat_tests);
  dollar = grind (arith, nat_tests);
  slash = grind (arith, nat_tests);
  backslash = grind (arith, nat_tests);
  tick = grind (arith, nat_tests);
}

pub blank_plain : (c : ℕ) → is_blank c ≡ true → IsPlain c false true false
blank_plain c e = record {
  letter_is = grind (arith, nat_tests);
  blank_is = e;
  digit_is = grind (arith, nat_tests);
  newline = grind (arith, nat_tests);
  quote = grind (arith, nat_tests);
  dollar = grind (arith, nat_tests);
  slash = grind (arith, nat_tests);
  backslash = grind (arith, nat_tests);
  tick = grind (arith, nat_tests);
}

pub digit_plain : (c : ℕ) → is_digit c ≡ true → IsPlain c false false true
digit_plain c e = record {
  letter_is = grind (arith, nat_tests);
  blank_is = grind (arith, nat_tests);
  digit_is = e;
  newline = grind (arith, nat_tests);
  quote = grind (arith, nat_tests);
  dollar = grind (arith, nat_tests);
  slash = grind (arith, nat_tests);
  backslash = grind (arith, nat_tests);
  tick = grind (arith, nat_tests);
}

plain_or : (a n m b : Bool)
    → a || false || false || false || n || false || m || false || (b || false || false || false) ≡ a || n || m || b
plain_or a n m b = simp or_nothing

-- what such a byte begins
pub piece-plain : (c : ℕ) (xs : List ℕ) (l b d : Bool) → IsPlain c l b d
    → is_piece (c ∷ xs) ≡ (l && list_all is_word_byte xs || is_numeral (c ∷ xs) || is_mark (c ∷ xs) || b && list_all is_blank xs)
piece-plain c xs l b d p =
    rw (p.letter_is, p.backslash, p.dollar, p.tick, p.quote, p.newline, p.blank_is, p.slash)
    (plain_or (l && list_all is_word_byte xs) (is_numeral (c ∷ xs)) (is_mark (c ∷ xs)) (b && list_all is_blank xs))

-- a letter begins a word
pub piece-letter : (c : ℕ) (xs : List ℕ) → is_letter c ≡ true → is_piece (c ∷ xs) ≡ is_simple_word (c ∷ xs)
piece-letter c xs e =
    piece-plain c xs true false false (letter_plain c e)
    ∙ rw (no_numeral c xs (letter_plain c e).digit_is, no_mark_letter c xs e, e) (simp or_nothing)

-- a digit begins a numeral
pub piece-digit : (c : ℕ) (xs : List ℕ) → is_digit c ≡ true → is_piece (c ∷ xs) ≡ is_numeral (c ∷ xs)
piece-digit c xs e =
    piece-plain c xs false false true (digit_plain c e) ∙ rw (no_mark_digit c xs e) (simp or_nothing)

-- a blank begins white space
pub piece-blank : (c : ℕ) (xs : List ℕ) → is_blank c ≡ true → is_piece (c ∷ xs) ≡ is_white_space (c ∷ xs)
piece-blank c xs e =
    piece-plain c xs false true false (blank_plain c e)
    ∙ rw (no_numeral c xs (blank_plain c e).digit_is, no_mark_blank c xs e, e) refl

-- any other byte begins a mark alone
pub piece-other : (c : ℕ) (xs : List ℕ) → IsPlain c false false false → is_piece (c ∷ xs) ≡ is_mark (c ∷ xs)
piece-other c xs p =
    piece-plain c xs false false false p ∙ rw (no_numeral c xs p.digit_is) (simp or_nothing)

-- and so for each byte that begins its own kinds
pub piece-newline : (xs : List ℕ) → is_piece (10 ∷ xs) ≡ is_newline (10 ∷ xs)
piece-newline xs = rw (no_numeral 10 xs refl, no_mark_newline xs) (simp or_nothing)

pub piece-quote : (xs : List ℕ) → is_piece (34 ∷ xs) ≡ is_text (34 ∷ xs)
piece-quote xs = rw (no_numeral 34 xs refl, no_mark_quote xs) (simp or_nothing)

pub piece-dollar : (xs : List ℕ) → is_piece (36 ∷ xs) ≡ is_system (36 ∷ xs)
piece-dollar xs = rw (no_numeral 36 xs refl, no_mark_dollar xs) (simp or_nothing)

pub piece-tick : (xs : List ℕ) → is_piece (96 ∷ xs) ≡ is_tick (96 ∷ xs)
piece-tick xs = rw (no_numeral 96 xs refl, no_mark_tick xs) (simp or_nothing)

pub piece-backslash : (xs : List ℕ) → is_piece (92 ∷ xs) ≡ is_escaped_word (92 ∷ xs) || is_continued_line (92 ∷ xs)
piece-backslash xs = rw (no_numeral 92 xs refl, no_mark_backslash xs) (simp or_nothing)

pub piece-slash : (xs : List ℕ) → is_piece (47 ∷ xs) ≡ is_mark (47 ∷ xs) || (is_line_comment (47 ∷ xs) || is_block_comment (47 ∷ xs))
piece-slash xs = rw (no_numeral 47 xs refl) (simp or_nothing)
