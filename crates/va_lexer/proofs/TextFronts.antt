-- How far strings, comments, line ends and marks go at the front of a text, by tests of its first bytes.
use Rattle.std.proofs.Common.{◌≡◌, ◌<◌, ◌≤◌, ◌+◌, ◌-◌, ℕ, zero, suc, List, [], ◌∷◌, length, take, drop, get_or, refl, ap, sym, ◌∙◌, arith, Option, Some, None, subst, inl, inr, ◌⊎◌}
use Rattle.std.specs.Prelude.{Bool, true, false, not, ◌==◌, ◌&&◌, ◌||◌, cond, IsTrue}
use Rattle.std.specs.List.{list_all, prefix_len}
use Rattle.std.proofs.lemmas.Bool.{eqb-true}
use Rattle.std.proofs.lemmas.Bool.Decides.{nat_tests}
use Rattle.std.proofs.Math.Seq.{drop-cons}
use Rattle.va_base.specs.declared.token.TokenKind.TheVariants.{Mark}
use Rattle.va_base.specs.Longest.{one_more, longest}
use Rattle.va_base.specs.Spelling.{is_letter, is_digit, is_word_byte, is_text_byte, is_text_rest, is_single_mark, is_mark, begins, is_in_line}
use Rattle.va_base.proofs.Longest.{longest-nil}
use Rattle.va_base.proofs.Tests.{not_true, true_not_false, or_left, or_false, and_left, and_right}
use Rattle.va_lexer.specs.Separators.{is_blank, closes_comment, is_comment_rest, is_line_end}
use Rattle.va_lexer.specs.Pieces.{begins_double_mark, is_other_byte, front, piece, shifted}
use Rattle.va_lexer.proofs.Beginnings.{rest_of, rest-cons, front-slash-end, front-slash-mark}
use Rattle.va_lexer.proofs.FirstBytes.{IsPlain, no_left, no_right}
use Rattle.va_lexer.proofs.Scans.{shifted-none, shifted-shifted, text-quote, text-plain, text-stop, text-pair, text-no_pair, comment-close, comment-more, line-newline, line-return, line-no_newline, line-other, mark-double, mark-single, mark-none}

-- strings
pub unit-quote : (rest : List ℕ) → begins (λ first. first == 34) rest ≡ true
    → longest is_text_rest rest ≡ cond (begins (λ first. first == 34) rest) (Some 1) None
unit-quote [] e = absurd (true_not_false e refl)
unit-quote (c ∷ rest) e = rw (e, eqb-true c 34 e) (text-quote rest)

text_no_backslash : (c : ℕ) → is_text_byte c ≡ false → (c == 92) ≡ false
text_no_backslash c e = not_true _ (λ q. true_not_false (ap is_text_byte (eqb-true c 92 q)) e)

pub unit-stop : (rest : List ℕ) → begins (λ first. first == 34) rest ≡ false → begins is_text_byte rest ≡ false
    → longest is_text_rest rest ≡ cond (begins (λ first. first == 34) rest) (Some 1) None
unit-stop [] q t = longest-nil is_text_rest [] refl
unit-stop (c ∷ rest) q t = rw q (text-stop c rest q (text_no_backslash c t) t)

pub unit-one : (rest : List ℕ) → begins (λ first. first == 34) rest ≡ false → begins is_text_byte rest ≡ true
    → begins (λ first. first == 92) rest ≡ false → longest is_text_rest rest ≡ shifted 1 (longest is_text_rest (drop 1 rest))
unit-one [] q t b = absurd (true_not_false t refl)
unit-one (c ∷ rest) q t b = text-plain c rest q b t

pub unit-two : (rest : List ℕ) → begins (λ first. first == 92) rest ≡ true → begins is_text_byte (rest_of rest) ≡ true
    → longest is_text_rest rest ≡ shifted 2 (longest is_text_rest (drop 2 rest))
unit-two [] b t = absurd (true_not_false b refl)
unit-two (c ∷ []) b t = absurd (true_not_false t refl)
unit-two (c ∷ d ∷ rest) b t =
    rw (eqb-true c 92 b) (text-pair d rest (ap (begins is_text_byte) (sym (rest-cons c (d ∷ rest))) ∙ t))

pub unit-alone : (rest : List ℕ) → begins (λ first. first == 34) rest ≡ false → begins (λ first. first == 92) rest ≡ true
    → begins is_text_byte (rest_of rest) ≡ false → longest is_text_rest rest ≡ cond (begins (λ first. first == 34) rest) (Some 1) None
unit-alone [] q b t = absurd (true_not_false b refl)
unit-alone (c ∷ rest) q b t =
    rw (q, eqb-true c 92 b) (text-no_pair rest (ap (begins is_text_byte) (sym (rest-cons c rest)) ∙ t))

-- comments
pub close-here : (rest : List ℕ) (at : ℕ) → closes_comment (drop at rest) ≡ true
    → shifted at (longest is_comment_rest (drop at rest)) ≡ Some (at + 2)
close-here rest at e = ap (shifted at) (close_front (drop at rest) e)
  where
    close_front : (text : List ℕ) → closes_comment text ≡ true → longest is_comment_rest text ≡ Some 2
    close_front [] e = absurd (true_not_false e refl)
    close_front (c ∷ []) e = absurd (true_not_false e refl)
    close_front (c ∷ d ∷ text) e =
        rw (eqb-true c 42 (and_left (c == 42) (d == 47) e), eqb-true d 47 (and_right (c == 42) (d == 47) e)) (comment-close text)

pub close-later : (rest : List ℕ) (at : ℕ) → at < length rest → closes_comment (drop at rest) ≡ false
    → shifted at (longest is_comment_rest (drop at rest)) ≡ shifted (at + 1) (longest is_comment_rest (drop (at + 1) rest))
close-later rest at lt e =
    let cut : drop at rest ≡ get_or rest at 0 ∷ drop (suc at) rest = drop-cons rest at 0 lt in
    ap (λ t. shifted at (longest is_comment_rest t)) cut
    ∙ ap (shifted at) (comment-more (get_or rest at 0) (drop (suc at) rest) (ap closes_comment (sym cut) ∙ e))
    ∙ shifted-shifted at 1 (longest is_comment_rest (drop (suc at) rest))
    ∙ ap (λ n. shifted (at + 1) (longest is_comment_rest (drop n rest))) (let next : suc at ≡ at + 1 = omega arith in next)

-- line ends
pub end-newline : (text : List ℕ) → begins (λ first. first == 10) text ≡ true → longest is_line_end text ≡ Some 1
end-newline [] e = absurd (true_not_false e refl)
end-newline (c ∷ rest) e = rw (eqb-true c 10 e) (line-newline rest)

pub end-other : (text : List ℕ) → begins (λ first. first == 10) text ≡ false → begins (λ first. first == 13) text ≡ false
    → longest is_line_end text ≡ None
end-other [] e f = longest-nil is_line_end [] refl
end-other (c ∷ rest) e f = line-other c rest e f

pub end-return : (text : List ℕ) → begins (λ first. first == 13) text ≡ true → begins (λ first. first == 10) (rest_of text) ≡ true
    → longest is_line_end text ≡ Some 2
end-return [] e f = absurd (true_not_false e refl)
end-return (c ∷ []) e f = absurd (true_not_false f refl)
end-return (c ∷ d ∷ rest) e f =
    let n : d ≡ 10 = eqb-true d 10 (ap (begins (λ first. first == 10)) (sym (rest-cons c (d ∷ rest))) ∙ f) in
    rw (eqb-true c 13 e, n) (line-return rest)

pub end-alone : (text : List ℕ) → begins (λ first. first == 13) text ≡ true → begins (λ first. first == 10) (rest_of text) ≡ false
    → longest is_line_end text ≡ None
end-alone [] e f = absurd (true_not_false e refl)
end-alone (c ∷ rest) e f =
    rw (eqb-true c 13 e) (line-no_newline rest (ap (begins (λ first. first == 10)) (sym (rest-cons c rest)) ∙ f))

-- marks
pub mark-two : (text : List ℕ) → begins_double_mark text ≡ true → longest is_mark text ≡ Some 2
mark-two [] e = absurd (true_not_false e refl)
mark-two (c ∷ []) e = absurd (true_not_false e refl)
mark-two (c ∷ d ∷ rest) e = mark-double c d rest e

pub mark-one : (text : List ℕ) (c : ℕ) (rest : List ℕ) → text ≡ c ∷ rest → begins_double_mark text ≡ false → is_single_mark c ≡ true
    → longest is_mark text ≡ Some 1
mark-one text c rest e d s = ap (longest is_mark) e ∙ mark-single c rest (ap begins_double_mark (sym e) ∙ d) s

pub mark-nothing : (text : List ℕ) (c : ℕ) (rest : List ℕ) → text ≡ c ∷ rest → begins_double_mark text ≡ false → is_single_mark c ≡ false
    → longest is_mark text ≡ None
mark-nothing text c rest e d s = ap (longest is_mark) e ∙ mark-none c rest (ap begins_double_mark (sym e) ∙ d) s

not_none : (b : Bool) → not b ≡ true → b ≡ false
not_none true e = absurd (true_not_false refl (sym e))
not_none false e = refl

-- a byte that begins no piece but a mark
pub other_plain : (c : ℕ) → is_other_byte c ≡ true → IsPlain c false false false
other_plain c e =
    let none = not_none _ e in
    let slash = no_right (is_letter c || is_blank c || is_digit c || c == 10 || c == 34 || c == 36 || c == 96 || c == 92) (c == 47) none in
    let e8 = no_left (is_letter c || is_blank c || is_digit c || c == 10 || c == 34 || c == 36 || c == 96 || c == 92) (c == 47) none in
    let e7 = no_left (is_letter c || is_blank c || is_digit c || c == 10 || c == 34 || c == 36 || c == 96) (c == 92) e8 in
    let e6 = no_left (is_letter c || is_blank c || is_digit c || c == 10 || c == 34 || c == 36) (c == 96) e7 in
    let e5 = no_left (is_letter c || is_blank c || is_digit c || c == 10 || c == 34) (c == 36) e6 in
    let e4 = no_left (is_letter c || is_blank c || is_digit c || c == 10) (c == 34) e5 in
    let e3 = no_left (is_letter c || is_blank c || is_digit c) (c == 10) e4 in
    let e2 = no_left (is_letter c || is_blank c) (is_digit c) e3 in
    record {
      letter_is = no_left (is_letter c) (is_blank c) e2;
      blank_is = no_right (is_letter c) (is_blank c) e2;
      digit_is = no_right (is_letter c || is_blank c) (is_digit c) e3;
      newline = no_right (is_letter c || is_blank c || is_digit c) (c == 10) e4;
      quote = no_right (is_letter c || is_blank c || is_digit c || c == 10) (c == 34) e5;
      dollar = no_right (is_letter c || is_blank c || is_digit c || c == 10 || c == 34) (c == 36) e6;
      slash = slash;
      backslash = no_right (is_letter c || is_blank c || is_digit c || c == 10 || c == 34 || c == 36 || c == 96) (c == 92) e8;
      tick = no_right (is_letter c || is_blank c || is_digit c || c == 10 || c == 34 || c == 36) (c == 96) e7;
    }

-- words count from their first letter
letter_word : (c : ℕ) → is_letter c ≡ true → is_word_byte c ≡ true
letter_word c e = or_left (is_letter c || is_digit c) (c == 36) (or_left (is_letter c) (is_digit c) e)

pub prefix-first : (p : ℕ → Bool) (c : ℕ) (rest : List ℕ) → p c ≡ true → prefix_len p (c ∷ rest) ≡ suc (prefix_len p rest)
prefix-first p c rest e = rw e (let one : 1 + prefix_len p rest ≡ suc (prefix_len p rest) = omega arith in one)

pub word-first : (c : ℕ) (rest : List ℕ) → is_letter c ≡ true → prefix_len is_word_byte (c ∷ rest) ≡ suc (prefix_len is_word_byte rest)
word-first c rest e = prefix-first is_word_byte c rest (letter_word c e)

-- a slash before neither a slash nor a star
pub slash-alone : (rest : List ℕ) → begins (λ first. first == 47) rest ≡ false → begins (λ first. first == 42) rest ≡ false
    → front (47 ∷ rest) ≡ piece (Some Mark) 1
slash-alone [] e f = front-slash-end
slash-alone (d ∷ more) e f = front-slash-mark d more e f
