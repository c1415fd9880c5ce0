-- The kind of a piece, by its first byte and what it spells.
use Rattle.std.proofs.Common.{◌≡◌, ℕ, List, [], ◌∷◌, refl, ap, sym, ◌∙◌, Option, Some, None}
use Rattle.std.specs.Prelude.{Bool, true, false, not, ◌==◌, ◌&&◌, ◌||◌, cond}
use Rattle.std.specs.List.{list_all}
use Rattle.va_base.specs.declared.token.TokenKind.{TokenKind}
use Rattle.va_base.specs.declared.token.TokenKind.TheVariants.{Word, System, Tick, Number, Text, Mark, Newline, Bad}
use Rattle.va_base.specs.Spelling.{is_letter, is_digit, is_word_byte, is_simple_word, is_escaped_word, is_word, is_system, is_tick, is_numeral, is_text, is_mark, is_newline}
use Rattle.va_base.proofs.Tests.{not_true, true_not_false, or_left, or_right}
use Rattle.va_lexer.specs.Separators.{is_blank, is_white_space, is_line_comment, is_block_comment, is_line_end, is_continued_line, is_separator}
use Rattle.va_lexer.specs.Pieces.{piece_kind, token_kind, numeral_kind}
use Rattle.va_lexer.proofs.FirstBytes.{IsPlain, letter_plain, digit_plain, no_numeral, no_mark_newline}

pub cond_true : {A : Type 0} (b : Bool) (x y : A) → b ≡ true → cond b x y ≡ x
cond_true true x y e = refl
cond_true false x y e = absurd (true_not_false e refl)

pub cond_false : {A : Type 0} (b : Bool) (x y : A) → b ≡ false → cond b x y ≡ y
cond_false true x y e = absurd (true_not_false refl e)
cond_false false x y e = refl

-- a separator has no kind
kind-separator : (bytes : List ℕ) → is_separator bytes ≡ true → piece_kind bytes ≡ None
kind-separator bytes e = cond_true (is_separator bytes) None (Some (token_kind bytes)) e

kind-token : (bytes : List ℕ) (k : TokenKind) → is_separator bytes ≡ false → token_kind bytes ≡ k → piece_kind bytes ≡ Some k
kind-token bytes k e t = cond_false (is_separator bytes) None (Some (token_kind bytes)) e ∙ ap (λ x. Some x) t

separator-plain : (c : ℕ) (xs : List ℕ) (l d : Bool) → IsPlain c l false d → is_separator (c ∷ xs) ≡ false
separator-plain c xs l d p = rw (p.blank_is, p.slash, p.backslash) refl

pub kind-letter : (c : ℕ) (xs : List ℕ) → is_letter c ≡ true → is_simple_word (c ∷ xs) ≡ true → piece_kind (c ∷ xs) ≡ Some Word
kind-letter c xs e w = kind-token (c ∷ xs) Word (separator-plain c xs true false (letter_plain c e))
    (cond_true (is_word (c ∷ xs)) Word _ (or_left (is_simple_word (c ∷ xs)) (is_escaped_word (c ∷ xs)) w))

pub kind-digit : (c : ℕ) (xs : List ℕ) → is_digit c ≡ true → is_numeral (c ∷ xs) ≡ true → piece_kind (c ∷ xs) ≡ Some (numeral_kind (c ∷ xs))
kind-digit c xs e n =
    let p = digit_plain c e in
    kind-token (c ∷ xs) (numeral_kind (c ∷ xs)) (separator-plain c xs false true p)
    (rw (p.letter_is, p.backslash, p.dollar, p.tick, n) refl)

pub kind-other : (c : ℕ) (xs : List ℕ) → IsPlain c false false false → is_mark (c ∷ xs) ≡ true → piece_kind (c ∷ xs) ≡ Some Mark
kind-other c xs p m =
    kind-token (c ∷ xs) Mark (separator-plain c xs false false p)
    (rw (p.letter_is, p.backslash, p.dollar, p.tick, no_numeral c xs p.digit_is, p.quote, m) refl)

pub kind-newline : (xs : List ℕ) → piece_kind (10 ∷ xs) ≡ Some Newline
kind-newline xs = rw (no_numeral 10 xs refl, no_mark_newline xs) refl

pub kind-quote : (xs : List ℕ) → is_text (34 ∷ xs) ≡ true → piece_kind (34 ∷ xs) ≡ Some Text
kind-quote xs t = rw (no_numeral 34 xs refl, t) refl

pub kind-dollar : (xs : List ℕ) → is_system (36 ∷ xs) ≡ true → piece_kind (36 ∷ xs) ≡ Some System
kind-dollar xs t = rw t refl

pub kind-tick : (xs : List ℕ) → is_tick (96 ∷ xs) ≡ true → piece_kind (96 ∷ xs) ≡ Some Tick
kind-tick xs t = rw t refl

pub kind-escaped : (xs : List ℕ) → is_line_end xs ≡ false → is_escaped_word (92 ∷ xs) ≡ true → piece_kind (92 ∷ xs) ≡ Some Word
kind-escaped xs e w = rw (e, w) refl

pub kind-slash : piece_kind (47 ∷ []) ≡ Some Mark
kind-slash = rw (no_numeral 47 [] refl) refl

pub kind-blank : (c : ℕ) (xs : List ℕ) → is_white_space (c ∷ xs) ≡ true → piece_kind (c ∷ xs) ≡ None
kind-blank c xs e = kind-separator (c ∷ xs) (or_left (is_white_space (c ∷ xs) || is_line_comment (c ∷ xs) || is_block_comment (c ∷ xs)) (is_continued_line (c ∷ xs))
    (or_left (is_white_space (c ∷ xs) || is_line_comment (c ∷ xs)) (is_block_comment (c ∷ xs)) (or_left (is_white_space (c ∷ xs)) (is_line_comment (c ∷ xs)) e)))

pub kind-continued : (bytes : List ℕ) → is_continued_line bytes ≡ true → piece_kind bytes ≡ None
kind-continued bytes e = kind-separator bytes (or_right (is_white_space bytes || is_line_comment bytes || is_block_comment bytes) (is_continued_line bytes) e)

pub kind-line : (bytes : List ℕ) → is_line_comment bytes ≡ true → piece_kind bytes ≡ None
kind-line bytes e =
    kind-separator bytes
    (or_left (is_white_space bytes || is_line_comment bytes || is_block_comment bytes) (is_continued_line bytes)
    (or_left (is_white_space bytes || is_line_comment bytes) (is_block_comment bytes) (or_right (is_white_space bytes) (is_line_comment bytes) e)))

pub kind-block : (bytes : List ℕ) → is_block_comment bytes ≡ true → piece_kind bytes ≡ None
kind-block bytes e =
    kind-separator bytes
    (or_left (is_white_space bytes || is_line_comment bytes || is_block_comment bytes) (is_continued_line bytes)
    (or_right (is_white_space bytes || is_line_comment bytes) (is_block_comment bytes) e))
