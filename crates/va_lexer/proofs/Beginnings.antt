-- The piece at the front of a text, by its first byte: its kind and its length.
use Rattle.std.proofs.Common.{◌≡◌, ◌<◌, ◌≤◌, ◌+◌, ◌-◌, ℕ, zero, suc, List, [], ◌∷◌, length, take, drop, get_or, refl, ap, sym, ◌∙◌, arith, Option, Some, None, subst, inl, inr, ◌⊎◌}
use Rattle.std.specs.Prelude.{Bool, true, false, not, ◌==◌, ◌&&◌, ◌||◌, cond, IsTrue}
use Rattle.std.specs.List.{list_all, prefix_len}
use Rattle.std.proofs.lemmas.Bool.{eqb-true}
use Rattle.std.proofs.lemmas.Bool.Decides.{nat_tests}
use Rattle.std.proofs.lemmas.List.{take_rest}
use Rattle.va_base.specs.declared.token.TokenKind.TheVariants.{Word, System, Tick, Number, Text, Mark, Newline, Bad}
use Rattle.va_base.specs.Longest.{one_more, longest, IsLongest, HasNone}
use Rattle.va_base.specs.Spelling.{byte_then, are_some, is_empty, is_letter, is_digit, is_word_byte, is_visible, is_simple_word, is_escaped_word, is_word, is_system, is_tick, is_numeral, is_text, is_text_rest, is_mark, is_newline, begins, is_in_line}
use Rattle.va_base.proofs.Longest.{longest_is, longest-none, longest-cons, longest-same, longest-nil, IsLongest-from, HasNone-from}
use Rattle.va_base.proofs.Numerals.{longest-is_empty}
use Rattle.va_base.proofs.Tests.{not_true, true_not_false, and_left, and_right, and_true, and_false, or_left, or_right, or_cases, or_false}
use Rattle.va_lexer.specs.Separators.{is_blank, is_white_space, is_line_comment, is_block_comment, is_comment_rest, is_line_end, is_continued_line}
use Rattle.va_lexer.specs.Pieces.{piece, bad, is_piece, piece_kind, numeral_kind, is_open_comment, is_open_text, front, is_other_byte, shifted}
use Rattle.va_lexer.proofs.FirstBytes.{IsPlain, letter_plain, blank_plain, digit_plain, piece-letter, piece-digit, piece-blank, piece-other, piece-newline, piece-quote, piece-dollar, piece-tick, piece-backslash, piece-slash, or_nothing}
use Rattle.va_lexer.proofs.Fronts.{longest-first, longest-fronts, longest-all, piece-nil, numeral-nil, front-kind, front-by, front-bad-by}
use Rattle.va_lexer.proofs.PieceKinds.{kind-letter, kind-digit, kind-other, kind-newline, kind-quote, kind-dollar, kind-tick, kind-escaped, kind-slash, kind-blank, kind-continued, kind-line, kind-block}

-- a byte that begins no comment and no string
no_comment : (c : ℕ) (rest : List ℕ) → (c == 47) ≡ false → is_open_comment (c ∷ rest) ≡ false
no_comment c rest e = rw e refl

no_text : (c : ℕ) (rest : List ℕ) → (c == 34) ≡ false → is_open_text (c ∷ rest) ≡ false
no_text c rest e = rw e refl

-- a length, where it is not zero
abbrev pub above_zero : ℕ → Option ℕ
above_zero zero = None
above_zero (suc n) = Some (suc n)

some_first : (b : Bool) (q : List ℕ → Bool) (rest : List ℕ) (n : ℕ) → longest q rest ≡ Some n
    → one_more false (longest (λ xs. b && q xs) rest) ≡ above_zero (cond b (1 + n) 0)
some_first true q rest n e = ap (one_more false) e ∙ sym (ap above_zero (let one : 1 + n ≡ suc n = omega arith in one))
some_first false q rest n e = ap (one_more false) (longest-none (λ front. false) rest (λ m le. refl))

-- some bytes that pass
pub longest-some : (p : ℕ → Bool) (text : List ℕ) → longest (are_some p) text ≡ above_zero (prefix_len p text)
longest-some p [] = longest-nil (are_some p) [] refl
longest-some p (c ∷ rest) =
    longest-cons (are_some p) (λ xs. p c && list_all p xs) c rest (λ xs. refl)
    ∙ some_first (p c) (list_all p) rest (prefix_len p rest) (longest-all p rest)

some_above : (n : ℕ) → 0 < n → above_zero n ≡ Some n
some_above zero lt = absurd (omega arith)
some_above (suc n) lt = refl

pub front-letter : (c : ℕ) (rest : List ℕ) → is_letter c ≡ true → front (c ∷ rest) ≡ piece (Some Word) (suc (prefix_len is_word_byte rest))
front-letter c rest e =
    let p = letter_plain c e in
    front-by is_simple_word c rest (suc (prefix_len is_word_byte rest)) (Some Word)
    (no_comment c rest p.slash) (no_text c rest p.quote) refl
    (λ m le. piece-letter c (take m rest) e) (λ m le w. kind-letter c (take m rest) e w)
    (longest-cons is_simple_word (list_all is_word_byte) c rest (λ xs. rw e refl) ∙ ap (one_more false) (longest-all is_word_byte rest))

pub front-blank : (c : ℕ) (rest : List ℕ) → is_blank c ≡ true → front (c ∷ rest) ≡ piece None (suc (prefix_len is_blank rest))
front-blank c rest e =
    let p = blank_plain c e in
    front-by is_white_space c rest (suc (prefix_len is_blank rest)) None
    (no_comment c rest p.slash) (no_text c rest p.quote) refl
    (λ m le. piece-blank c (take m rest) e) (λ m le w. kind-blank c (take m rest) w)
    (longest-cons is_white_space (list_all is_blank) c rest (λ xs. rw e refl) ∙ ap (one_more false) (longest-all is_blank rest))

pub front-newline : (rest : List ℕ) → front (10 ∷ rest) ≡ piece (Some Newline) 1
front-newline rest =
    front-by is_newline 10 rest 1 (Some Newline) refl refl refl (λ m le. piece-newline (take m rest)) (λ m le w. kind-newline (take m rest))
    (longest-cons is_newline is_empty 10 rest (λ xs. refl) ∙ ap (one_more false) (longest-is_empty rest))

pub front-dollar-none : (rest : List ℕ) → prefix_len is_word_byte rest ≡ 0 → front (36 ∷ rest) ≡ bad 1
front-dollar-none rest e =
    front-bad-by is_system 36 rest refl refl refl (λ m le. piece-dollar (take m rest))
    (longest-cons is_system (are_some is_word_byte) 36 rest (λ xs. refl)
    ∙ ap (one_more false) (longest-some is_word_byte rest ∙ ap above_zero e))

pub front-dollar-some : (rest : List ℕ) → 0 < prefix_len is_word_byte rest
    → front (36 ∷ rest) ≡ piece (Some System) (suc (prefix_len is_word_byte rest))
front-dollar-some rest lt =
    front-by is_system 36 rest (suc (prefix_len is_word_byte rest)) (Some System) refl refl refl
    (λ m le. piece-dollar (take m rest)) (λ m le w. kind-dollar (take m rest) w)
    (longest-cons is_system (are_some is_word_byte) 36 rest (λ xs. refl)
    ∙ ap (one_more false) (longest-some is_word_byte rest ∙ some_above (prefix_len is_word_byte rest) lt))

no_simple_word : (rest : List ℕ) → begins is_letter rest ≡ false → longest is_simple_word rest ≡ None
no_simple_word [] e = longest-nil is_simple_word [] refl
no_simple_word (d ∷ more) e =
    longest-cons is_simple_word (λ xs. false) d more (λ xs. rw e refl)
    ∙ ap (one_more false) (longest-none (λ xs. false) more (λ m le. refl))

pub front-tick-none : (rest : List ℕ) → begins is_letter rest ≡ false → front (96 ∷ rest) ≡ bad 1
front-tick-none rest e =
    front-bad-by is_tick 96 rest refl refl refl (λ m le. piece-tick (take m rest))
    (longest-cons is_tick is_simple_word 96 rest (λ xs. refl) ∙ ap (one_more false) (no_simple_word rest e))

pub front-tick-some : (d : ℕ) (more : List ℕ) → is_letter d ≡ true
    → front (96 ∷ d ∷ more) ≡ piece (Some Tick) (suc (suc (prefix_len is_word_byte more)))
front-tick-some d more e =
    front-by is_tick 96 (d ∷ more) (suc (suc (prefix_len is_word_byte more))) (Some Tick) refl refl refl
    (λ m le. piece-tick (take m (d ∷ more))) (λ m le w. kind-tick (take m (d ∷ more)) w)
    (longest-cons is_tick is_simple_word 96 (d ∷ more) (λ xs. refl)
    ∙ ap (one_more false) (longest-cons is_simple_word (list_all is_word_byte) d more (λ xs. rw e refl)
    ∙ ap (one_more false) (longest-all is_word_byte more)))

pub front-digit : (c : ℕ) (rest : List ℕ) (n : ℕ) → is_digit c ≡ true → longest is_numeral (c ∷ rest) ≡ Some n
    → front (c ∷ rest) ≡ piece (Some (numeral_kind (take n (c ∷ rest)))) n
front-digit c rest zero e l = absurd (true_not_false (IsLongest-from is_numeral (c ∷ rest) 0 l).passes numeral-nil)
front-digit c rest (suc n) e l =
    let p = digit_plain c e in
    front-kind (c ∷ rest) (suc n) (Some (numeral_kind (c ∷ take n rest))) (no_comment c rest p.slash) (no_text c rest p.quote)
    (longest-first is_piece is_numeral c rest (λ xs. piece-digit c xs e) (piece-nil ∙ sym numeral-nil) ∙ l)
    (kind-digit c (take n rest) e (IsLongest-from is_numeral (c ∷ rest) (suc n) l).passes)

numeral-one : (c : ℕ) → is_digit c ≡ true → is_numeral (c ∷ []) ≡ true
unfolding is_numeral
numeral-one c e = rw (e, e) refl

pub digit-some : (c : ℕ) (rest : List ℕ) → is_digit c ≡ true → longest is_numeral (c ∷ rest) ≡ None → ⊥
digit-some c rest e n = true_not_false (numeral-one c e) (HasNone-from is_numeral (c ∷ rest) n 1 (omega arith))

pub front-mark-some : (c : ℕ) (rest : List ℕ) (n : ℕ) → IsPlain c false false false → longest is_mark (c ∷ rest) ≡ Some n
    → front (c ∷ rest) ≡ piece (Some Mark) n
front-mark-some c rest n p l =
    front-by is_mark c rest n (Some Mark) (no_comment c rest p.slash) (no_text c rest p.quote) refl
    (λ m le. piece-other c (take m rest) p) (λ m le w. kind-other c (take m rest) p w) l

pub front-mark-none : (c : ℕ) (rest : List ℕ) → IsPlain c false false false → longest is_mark (c ∷ rest) ≡ None → front (c ∷ rest) ≡ bad 1
front-mark-none c rest p l =
    front-bad-by is_mark c rest (no_comment c rest p.slash) (no_text c rest p.quote) refl (λ m le. piece-other c (take m rest) p) l

-- strings
text-cons : (rest : List ℕ) (r : Option ℕ) → longest is_text_rest rest ≡ r → longest is_text (34 ∷ rest) ≡ one_more false r
text-cons rest r l = longest-cons is_text is_text_rest 34 rest (λ xs. refl) ∙ ap (one_more false) l

pub front-quote-some : (rest : List ℕ) (n : ℕ) → longest is_text_rest rest ≡ Some n → front (34 ∷ rest) ≡ piece (Some Text) (suc n)
front-quote-some rest n l =
    front-by is_text 34 rest (suc n) (Some Text) refl (rw (text-cons rest (Some n) l) refl) refl
    (λ m le. piece-quote (take m rest)) (λ m le w. kind-quote (take m rest) w) (text-cons rest (Some n) l)

pub front-quote-none : (rest : List ℕ) → longest is_text_rest rest ≡ None → front (34 ∷ rest) ≡ bad (prefix_len is_in_line (34 ∷ rest))
unfolding front
front-quote-none rest l = rw (text-cons rest None l) refl

-- escaped words and lines that go on
some_cond : (b : Bool) (n : ℕ) → 0 < cond b (1 + n) 0 → b ≡ true
some_cond true n lt = refl
some_cond false n lt = absurd (omega arith)

none_cond : (b : Bool) (n : ℕ) → cond b (1 + n) 0 ≡ 0 → b ≡ false
none_cond true n e = absurd (omega arith)
none_cond false n e = refl

visible_no_newline : (d : ℕ) → is_visible d ≡ true → (d == 10) ≡ false
visible_no_newline d v = grind (arith, nat_tests)

visible_no_return : (d : ℕ) → is_visible d ≡ true → (d == 13) ≡ false
visible_no_return d v = grind (arith, nat_tests)

first_visible : (rest : List ℕ) (m : ℕ) → 0 < prefix_len is_visible rest → is_line_end (take m rest) ≡ false
first_visible rest zero lt = refl
first_visible [] (suc m) lt = refl
first_visible (d ∷ more) (suc m) lt =
    let v : is_visible d ≡ true = some_cond (is_visible d) (prefix_len is_visible more) lt in
    rw (visible_no_newline d v, visible_no_return d v) refl

first_hidden : (rest : List ℕ) (m : ℕ) → prefix_len is_visible rest ≡ 0 → are_some is_visible (take m rest) ≡ false
first_hidden rest zero e = refl
first_hidden [] (suc m) e = refl
first_hidden (d ∷ more) (suc m) e =
    let v : is_visible d ≡ false = none_cond (is_visible d) (prefix_len is_visible more) e in rw v refl

pub front-backslash-word : (rest : List ℕ) → 0 < prefix_len is_visible rest
    → front (92 ∷ rest) ≡ piece (Some Word) (suc (prefix_len is_visible rest))
front-backslash-word rest lt =
    front-by is_escaped_word 92 rest (suc (prefix_len is_visible rest)) (Some Word) refl refl refl
    (λ m le. piece-backslash (take m rest) ∙ rw (first_visible rest m lt) (or_nothing (is_escaped_word (92 ∷ take m rest))))
    (λ m le w. kind-escaped (take m rest) (first_visible rest m lt) w)
    (longest-cons is_escaped_word (are_some is_visible) 92 rest (λ xs. refl)
    ∙ ap (one_more false) (longest-some is_visible rest ∙ some_above (prefix_len is_visible rest) lt))

pub front-backslash-line : (rest : List ℕ) (n : ℕ) → prefix_len is_visible rest ≡ 0 → longest is_line_end rest ≡ Some n
    → front (92 ∷ rest) ≡ piece None (suc n)
front-backslash-line rest n e l =
    front-by is_continued_line 92 rest (suc n) None refl refl refl
    (λ m le. piece-backslash (take m rest) ∙ rw (first_hidden rest m e) refl)
    (λ m le w. kind-continued (92 ∷ take m rest) w)
    (longest-cons is_continued_line is_line_end 92 rest (λ xs. refl) ∙ ap (one_more false) l)

pub front-backslash-bad : (rest : List ℕ) → prefix_len is_visible rest ≡ 0 → longest is_line_end rest ≡ None → front (92 ∷ rest) ≡ bad 1
front-backslash-bad rest e l =
    front-bad-by is_continued_line 92 rest refl refl refl
    (λ m le. piece-backslash (take m rest) ∙ rw (first_hidden rest m e) refl)
    (longest-cons is_continued_line is_line_end 92 rest (λ xs. refl) ∙ ap (one_more false) l)

-- comments
abbrev after_slash : List ℕ → Bool
after_slash xs = is_mark (47 ∷ xs) || (byte_then 47 (list_all is_in_line) xs || byte_then 42 is_comment_rest xs)

slash-cons : (rest : List ℕ) (r : Option ℕ) → longest after_slash rest ≡ r → longest is_piece (47 ∷ rest) ≡ one_more false r
slash-cons rest r e =
    longest-first is_piece (byte_then 47 after_slash) 47 rest (λ xs. piece-slash xs) piece-nil
    ∙ longest-cons (byte_then 47 after_slash) after_slash 47 rest (λ xs. refl) ∙ ap (one_more false) e

no_slash_mark : (d : ℕ) (ys : List ℕ) → is_mark (47 ∷ d ∷ ys) ≡ false
no_slash_mark d [] = refl
no_slash_mark d (f ∷ ys) = refl

pub front-slash-end : front (47 ∷ []) ≡ piece (Some Mark) 1
front-slash-end =
    front-kind (47 ∷ []) 1 (Some Mark) refl refl (slash-cons [] (Some 0) (longest-nil after_slash [] refl)) kind-slash

pub front-slash-line : (more : List ℕ) → front (47 ∷ 47 ∷ more) ≡ piece None (suc (suc (prefix_len is_in_line more)))
front-slash-line more =
    front-kind (47 ∷ 47 ∷ more) (suc (suc (prefix_len is_in_line more))) None refl refl
    (slash-cons (47 ∷ more) (Some (suc (prefix_len is_in_line more)))
    (longest-cons after_slash (list_all is_in_line) 47 more (λ ys. rw (no_slash_mark 47 ys) (or_nothing (list_all is_in_line ys)))
    ∙ ap (one_more true) (longest-all is_in_line more)))
    (kind-line (47 ∷ 47 ∷ take (prefix_len is_in_line more) more)
    (IsLongest-from (list_all is_in_line) more (prefix_len is_in_line more) (longest-all is_in_line more)).passes)

block-cons : (more : List ℕ) (r : Option ℕ) → longest is_comment_rest more ≡ r
    → longest is_block_comment (47 ∷ 42 ∷ more) ≡ one_more false (one_more false r)
block-cons more r l =
    longest-cons is_block_comment (byte_then 42 is_comment_rest) 47 (42 ∷ more) (λ xs. refl)
    ∙ ap (one_more false) (longest-cons (byte_then 42 is_comment_rest) is_comment_rest 42 more (λ ys. refl) ∙ ap (one_more false) l)

pub front-slash-comment : (more : List ℕ) (n : ℕ) → longest is_comment_rest more ≡ Some n
    → front (47 ∷ 42 ∷ more) ≡ piece None (suc (suc n))
front-slash-comment more n l =
    front-kind (47 ∷ 42 ∷ more) (suc (suc n)) None (rw (block-cons more (Some n) l) refl) refl
    (slash-cons (42 ∷ more) (Some (suc n))
    (longest-cons after_slash is_comment_rest 42 more (λ ys. rw (no_slash_mark 42 ys) refl) ∙ ap (one_more true) l))
    (kind-block (47 ∷ 42 ∷ take n more) (IsLongest-from is_comment_rest more n l).passes)

pub front-slash-open : (more : List ℕ) → longest is_comment_rest more ≡ None → front (47 ∷ 42 ∷ more) ≡ bad (length (47 ∷ 42 ∷ more))
unfolding front
front-slash-open more l = rw (block-cons more None l) refl

pub front-slash-mark : (d : ℕ) (more : List ℕ) → (d == 47) ≡ false → (d == 42) ≡ false → front (47 ∷ d ∷ more) ≡ piece (Some Mark) 1
front-slash-mark d more e f =
    front-kind (47 ∷ d ∷ more) 1 (Some Mark) (rw f refl) refl
    (slash-cons (d ∷ more) (Some 0)
    (longest-cons after_slash (λ ys. false) d more (λ ys. rw (no_slash_mark d ys, e, f) refl)
    ∙ ap (one_more true) (longest-none (λ ys. false) more (λ m le. refl))))
    kind-slash

-- what follows the first byte
abbrev pub rest_of : List ℕ → List ℕ
rest_of text = take (length text - 1) (drop 1 text)

pub rest-cons : (c : ℕ) (rest : List ℕ) → rest_of (c ∷ rest) ≡ rest
rest-cons c rest = take_rest (c ∷ rest) 1

-- a text whose first byte passes
pub first-byte : (test : ℕ → Bool) (text : List ℕ) → IsTrue (begins test text) → (c : ℕ) × (text ≡ c ∷ rest_of text) × (test c ≡ true)
first-byte test [] e = absurd (true_not_false e refl)
first-byte test (c ∷ rest) e = (c, ap (λ l. c ∷ l) (sym (rest-cons c rest)), e)

pub first-literal : (byte : ℕ) (text : List ℕ) → IsTrue (begins (λ b. b == byte) text) → text ≡ byte ∷ rest_of text
first-literal byte text e =
    let f = first-byte (λ b. b == byte) text e in
    f.1 ∙ ap (λ c. c ∷ rest_of text) (eqb-true f.0 byte f.2)
