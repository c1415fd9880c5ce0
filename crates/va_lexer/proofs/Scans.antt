-- How far strings, comments, line ends and marks go, unit by unit.
use Rattle.std.proofs.Common.{◌≡◌, ◌<◌, ◌≤◌, ◌+◌, ◌-◌, ℕ, zero, suc, List, [], ◌∷◌, length, take, drop, get_or, refl, ap, sym, ◌∙◌, arith, Option, Some, None, subst, inl, inr, ◌⊎◌}
use Rattle.std.specs.Prelude.{Bool, true, false, not, ◌==◌, ◌&&◌, ◌||◌, cond, IsTrue}
use Rattle.std.specs.List.{list_all, prefix_len}
use Rattle.std.proofs.lemmas.Bool.Decides.{nat_tests}
use Rattle.va_base.specs.Longest.{one_more, longest, IsLongest, HasNone}
use Rattle.va_base.specs.Spelling.{byte_then, is_empty, is_text_byte, is_text_rest, is_single_mark, is_double_mark, is_mark, is_newline, begins}
use Rattle.va_base.proofs.Longest.{longest_is, longest-none, longest-cons, longest-same, longest-nil, IsLongest-from, HasNone-from}
use Rattle.va_base.proofs.Numerals.{longest-is_empty}
use Rattle.va_base.proofs.Tests.{not_true, true_not_false, and_left, and_right, and_true, and_false, or_left, or_right, or_cases, or_false}
use Rattle.va_lexer.specs.Separators.{closes_comment, is_comment_rest, is_line_end}
use Rattle.va_lexer.specs.Pieces.{begins_double_mark, shifted}
use Rattle.va_lexer.proofs.FirstBytes.{or_nothing}
use Rattle.va_lexer.proofs.Fronts.{longest-fronts}
use Rattle.va_lexer.proofs.PieceKinds.{cond_false}

and_nothing : (a b : Bool) → a && true && b ≡ a && b
and_nothing true b = refl
and_nothing false b = refl

none_passes : (text : List ℕ) → longest (λ xs. false) text ≡ None
none_passes text = longest-none (λ xs. false) text (λ m le. refl)

pub shifted-none : (r : Option ℕ) → shifted 0 r ≡ r
shifted-none None = refl
shifted-none (Some n) = ap (λ k. Some k) (omega arith)

pub shifted-one : (r : Option ℕ) → one_more false r ≡ shifted 1 r
shifted-one None = refl
shifted-one (Some n) = ap (λ k. Some k) (omega arith)

pub shifted-shifted : (m n : ℕ) (r : Option ℕ) → shifted m (shifted n r) ≡ shifted (m + n) r
shifted-shifted m n None = refl
shifted-shifted m n (Some k) = ap (λ j. Some j) (omega arith)

-- a quote ends a string
pub text-quote : (rest : List ℕ) → longest is_text_rest (34 ∷ rest) ≡ Some 1
text-quote rest = longest-cons is_text_rest is_empty 34 rest quote ∙ ap (one_more false) (longest-is_empty rest)
  where
    quote : (xs : List ℕ) → is_text_rest (34 ∷ xs) ≡ is_empty xs
    quote [] = refl
    quote (d ∷ xs) = refl

-- a byte that is neither a quote nor a `\`
plain_rest : (c : ℕ) (xs : List ℕ) → (c == 34) ≡ false → (c == 92) ≡ false → is_text_rest (c ∷ xs) ≡ (is_text_byte c && is_text_rest xs)
plain_rest c [] e f = rw e (sym (and_false (is_text_byte c) false refl))
plain_rest c (d ∷ xs) e f = rw (f, e) (and_nothing (is_text_byte c) (is_text_rest (d ∷ xs)))

pub text-plain : (c : ℕ) (rest : List ℕ) → (c == 34) ≡ false → (c == 92) ≡ false → is_text_byte c ≡ true
    → longest is_text_rest (c ∷ rest) ≡ shifted 1 (longest is_text_rest rest)
text-plain c rest e f t =
    longest-cons is_text_rest is_text_rest c rest (λ xs. plain_rest c xs e f ∙ rw t refl) ∙ shifted-one (longest is_text_rest rest)

-- a byte that no string holds
pub text-stop : (c : ℕ) (rest : List ℕ) → (c == 34) ≡ false → (c == 92) ≡ false → is_text_byte c ≡ false → longest is_text_rest (c ∷ rest) ≡ None
text-stop c rest e f t =
    longest-cons is_text_rest (λ xs. false) c rest (λ xs. plain_rest c xs e f ∙ rw t refl) ∙ ap (one_more false) (none_passes rest)

-- `\` and the byte that it takes with it
abbrev after_backslash : List ℕ → Bool
after_backslash [] = false
after_backslash (d ∷ xs) = is_text_byte d && is_text_rest xs

backslash_rest : (xs : List ℕ) → is_text_rest (92 ∷ xs) ≡ after_backslash xs
backslash_rest [] = refl
backslash_rest (d ∷ xs) = refl

shifted-two : (r : Option ℕ) → one_more false (one_more false r) ≡ shifted 2 r
shifted-two None = refl
shifted-two (Some n) = ap (λ k. Some k) (omega arith)

pub text-pair : (d : ℕ) (rest : List ℕ) → is_text_byte d ≡ true → longest is_text_rest (92 ∷ d ∷ rest) ≡ shifted 2 (longest is_text_rest rest)
text-pair d rest t =
    longest-cons is_text_rest after_backslash 92 (d ∷ rest) backslash_rest
    ∙ ap (one_more false) (longest-cons after_backslash is_text_rest d rest (λ xs. rw t refl)) ∙ shifted-two (longest is_text_rest rest)

pub text-no_pair : (rest : List ℕ) → begins is_text_byte rest ≡ false → longest is_text_rest (92 ∷ rest) ≡ None
text-no_pair [] e =
    longest-cons is_text_rest after_backslash 92 [] backslash_rest ∙ ap (one_more false) (longest-nil after_backslash [] refl)
text-no_pair (d ∷ rest) e =
    longest-cons is_text_rest after_backslash 92 (d ∷ rest) backslash_rest
    ∙ ap (one_more false) (longest-cons after_backslash (λ xs. false) d rest (λ xs. rw e refl) ∙ ap (one_more false) (none_passes rest))

-- a comment ends at its first `*/`
pub comment-close : (rest : List ℕ) → longest is_comment_rest (42 ∷ 47 ∷ rest) ≡ Some 2
comment-close rest =
    longest-cons is_comment_rest (λ xs. is_comment_rest (42 ∷ xs)) 42 (47 ∷ rest) (λ xs. refl)
    ∙ ap (one_more false) (longest-cons (λ xs. is_comment_rest (42 ∷ xs)) is_empty 47 rest (λ ys. refl)
    ∙ ap (one_more false) (longest-is_empty rest))

open_front : (c : ℕ) (rest : List ℕ) (m : ℕ) → closes_comment (c ∷ rest) ≡ false → closes_comment (c ∷ take m rest) ≡ false
open_front c rest zero e = refl
open_front c [] (suc m) e = refl
open_front c (d ∷ rest) (suc m) e = e

pub comment-more : (c : ℕ) (rest : List ℕ) → closes_comment (c ∷ rest) ≡ false
    → longest is_comment_rest (c ∷ rest) ≡ shifted 1 (longest is_comment_rest rest)
comment-more c rest e =
    longest-cons is_comment_rest (λ xs. is_comment_rest (c ∷ xs)) c rest (λ xs. refl)
    ∙ ap (one_more false) (longest-fronts (λ xs. is_comment_rest (c ∷ xs)) is_comment_rest rest
    (λ m le. cond_false (closes_comment (c ∷ take m rest)) _ (is_comment_rest (take m rest)) (open_front c rest m e)))
    ∙ shifted-one (longest is_comment_rest rest)

-- line ends
pub line-newline : (rest : List ℕ) → longest is_line_end (10 ∷ rest) ≡ Some 1
line-newline rest =
    longest-cons is_line_end is_empty 10 rest (λ xs. or_nothing (is_empty xs)) ∙ ap (one_more false) (longest-is_empty rest)

pub line-return : (rest : List ℕ) → longest is_line_end (13 ∷ 10 ∷ rest) ≡ Some 2
line-return rest =
    longest-cons is_line_end is_newline 13 (10 ∷ rest) (λ xs. refl)
    ∙ ap (one_more false) (longest-cons is_newline is_empty 10 rest (λ xs. refl) ∙ ap (one_more false) (longest-is_empty rest))

no_newline : (rest : List ℕ) → begins (λ byte. byte == 10) rest ≡ false → longest is_newline rest ≡ None
no_newline [] e = longest-nil is_newline [] refl
no_newline (c ∷ rest) e =
    longest-cons is_newline (λ xs. false) c rest (λ xs. rw e refl) ∙ ap (one_more false) (none_passes rest)

pub line-no_newline : (rest : List ℕ) → begins (λ byte. byte == 10) rest ≡ false → longest is_line_end (13 ∷ rest) ≡ None
line-no_newline rest e = longest-cons is_line_end is_newline 13 rest (λ xs. refl) ∙ ap (one_more false) (no_newline rest e)

pub line-other : (c : ℕ) (rest : List ℕ) → (c == 10) ≡ false → (c == 13) ≡ false → longest is_line_end (c ∷ rest) ≡ None
line-other c rest e f =
    longest-cons is_line_end (λ xs. false) c rest (λ xs. rw (e, f) refl) ∙ ap (one_more false) (none_passes rest)

-- marks
no_third : (c d : ℕ) (rest : List ℕ) (m : ℕ) → 2 < m → m ≤ length (c ∷ d ∷ rest) → is_mark (take m (c ∷ d ∷ rest)) ≡ false
no_third c d rest zero lt le = absurd (omega arith)
no_third c d rest (suc zero) lt le = absurd (omega arith)
no_third c d rest (suc (suc zero)) lt le = absurd (omega arith)
no_third c d [] (suc (suc (suc m))) lt le = absurd (omega arith)
no_third c d (e ∷ rest) (suc (suc (suc m))) lt le = refl

pub mark-double : (c d : ℕ) (rest : List ℕ) → is_double_mark c d ≡ true → longest is_mark (c ∷ d ∷ rest) ≡ Some 2
mark-double c d rest e =
    longest_is is_mark (c ∷ d ∷ rest) 2 (record { within = omega arith; passes = e; longer = no_third c d rest })

no_second : (c : ℕ) (rest : List ℕ) (m : ℕ) → begins_double_mark (c ∷ rest) ≡ false → 1 < m → m ≤ length (c ∷ rest) → is_mark (take m (c ∷ rest)) ≡ false
no_second c rest zero n lt le = absurd (omega arith)
no_second c rest (suc zero) n lt le = absurd (omega arith)
no_second c [] (suc (suc m)) n lt le = absurd (omega arith)
no_second c (d ∷ rest) (suc (suc zero)) n lt le = n
no_second c (d ∷ []) (suc (suc (suc m))) n lt le = absurd (omega arith)
no_second c (d ∷ e ∷ rest) (suc (suc (suc m))) n lt le = refl

pub mark-single : (c : ℕ) (rest : List ℕ) → begins_double_mark (c ∷ rest) ≡ false → is_single_mark c ≡ true → longest is_mark (c ∷ rest) ≡ Some 1
mark-single c rest n e =
    longest_is is_mark (c ∷ rest) 1 (record { within = omega arith; passes = e; longer = λ m lt le. no_second c rest m n lt le })

pub mark-none : (c : ℕ) (rest : List ℕ) → begins_double_mark (c ∷ rest) ≡ false → is_single_mark c ≡ false → longest is_mark (c ∷ rest) ≡ None
mark-none c rest n e =
    longest-none is_mark (c ∷ rest) (λ m. elim m as (λ k. k ≤ length (c ∷ rest) → is_mark (take k (c ∷ rest)) ≡ false) [
      | zero ↦ λ le. refl
      | suc k ↦ none_at k
    ])
  where
    none_at : (k : ℕ) → suc k ≤ length (c ∷ rest) → is_mark (take (suc k) (c ∷ rest)) ≡ false
    none_at zero le = e
    none_at (suc k) le = no_second c rest (suc (suc k)) n (omega arith) le
