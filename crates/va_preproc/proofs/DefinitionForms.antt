-- Definitions, a token at a time.
use Rattle.std.proofs.Common.{◌≡◌, ◌<◌, ◌≤◌, ◌+◌, ◌-◌, ℕ, zero, suc, List, [], ◌∷◌, ◌++◌, length, take, drop, get_or, refl, sym, ap, ◌∙◌, arith, append_assoc, Bool, true, false, cond}
use Rattle.std.proofs.lemmas.List.{take_more, length-drop, append-nil}
use Rattle.std.specs.Prelude.{Option, Some, None, not, map, if◌then◌else◌, codes, ◌&&◌, ◌==◌}
use Rattle.std.specs.List.{prefix_len}
use Rattle.std.specs.Str.{is_utf8, IsUtf8}
use Rattle.std.proofs.lemmas.Str.{IsUtf8-from_is_utf8, is_utf8-from_IsUtf8}
use Rattle.va_base.specs.declared.file.FileText.{FileText}
use Rattle.va_base.specs.declared.token.Token.{Token}
use Rattle.va_preproc.specs.Lexemes.{Bytes, Lexeme, is_spelled, is_line_end, name_of}
use Rattle.va_preproc.specs.Definitions.{file_name_as, line, new_name_as, comma, closing, separator, formals_from, formals_form, follows_directly, list_or_body, after_name}
use Rattle.va_preproc.specs.Values.{lexeme_in, lexemes_in}
use Rattle.va_preproc.proofs.Lists.{more, map_push}
use Rattle.va_preproc.proofs.Loops.{lexemes_more}

-- a line whose first token ends it, or goes on
line_first : (t : Lexeme) (rest : List Lexeme) → is_line_end t ≡ true → line (t ∷ rest) ≡ []
line_first t rest e = by_test (is_line_end t) e
  where
    by_test : (b : Bool) → b ≡ true → take (cond (not b) (1 + prefix_len (λ u. not (is_line_end u)) rest) 0) (t ∷ rest) ≡ []
    by_test true e = refl
    by_test false e = cc

line_more : (t : Lexeme) (rest : List Lexeme) → is_line_end t ≡ false → line (t ∷ rest) ≡ t ∷ line rest
line_more t rest e = by_test (is_line_end t) e
  where
    one_more : (n : ℕ) → 1 + n ≡ suc n
    one_more n = omega arith

    by_test : (b : Bool) → b ≡ false → take (cond (not b) (1 + prefix_len (λ u. not (is_line_end u)) rest) 0) (t ∷ rest) ≡ t ∷ line rest
    by_test true e = cc
    by_test false e = ap (λ n. take n (t ∷ rest)) (one_more (prefix_len (λ u. not (is_line_end u)) rest))

module _ (files : List FileText) (ts : List Token) (i : ℕ) (d : Token) (below : i < length ts) where
  abbrev here : Lexeme
  here = lexeme_in files (get_or ts i d)

  pub line_ends : is_line_end here ≡ true → line (lexemes_in files ts) ≡ lexemes_in files (take i ts) ++ line (lexemes_in files (drop i ts))
      → line (lexemes_in files ts) ≡ lexemes_in files (take i ts)
  line_ends e h =
      h ∙ ap (λ l. lexemes_in files (take i ts) ++ line l) (lexemes_more files ts i d below)
      ∙ ap (λ l. lexemes_in files (take i ts) ++ l) (line_first here (lexemes_in files (drop (i + 1) ts)) e)
      ∙ append-nil (lexemes_in files (take i ts))

  pub line_goes_on : is_line_end here ≡ false
      → line (lexemes_in files ts) ≡ lexemes_in files (take i ts) ++ line (lexemes_in files (drop i ts))
      → line (lexemes_in files ts) ≡ lexemes_in files (take (i + 1) ts) ++ line (lexemes_in files (drop (i + 1) ts))
  line_goes_on e h =
      h ∙ ap (λ l. lexemes_in files (take i ts) ++ line l) (lexemes_more files ts i d below)
      ∙ ap (λ l. lexemes_in files (take i ts) ++ l) (line_more here (lexemes_in files (drop (i + 1) ts)) e)
      ∙ sym (append_assoc (lexemes_in files (take i ts)) (here ∷ []) (line (lexemes_in files (drop (i + 1) ts))))
      ∙ ap (λ l. l ++ line (lexemes_in files (drop (i + 1) ts)))
      (sym (ap (lexemes_in files) (take_more ts i d below) ∙ map_push (lexeme_in files) (take i ts) (get_or ts i d)))

-- two tokens more of a list of formals
pub formals_turn : (files : List FileText) (ts : List Token) (i : ℕ) (d : Token) (seen : List Bytes) (name : Bytes) → 1 < length ts - i
    → Some name ≡ new_name_as seen (name_of (lexeme_in files (get_or ts i d)))
    → comma ≡ separator (lexeme_in files (get_or ts (i + 1) d))
    → more i (formals_form seen (lexemes_in files (drop i ts)))
    ≡ more (i + 2) (formals_form (seen ++ name ∷ []) (lexemes_in files (drop (i + 2) ts)))
formals_turn files ts i d seen name h e f =
    ap (λ l. more i (formals_form seen l)) (lexemes_more files ts i d (omega arith)
    ∙ ap (λ l. lexeme_in files (get_or ts i d) ∷ l) (lexemes_more files ts (i + 1) d (omega arith) ∙ ap (λ n. lexeme_in files (get_or ts (i + 1) d) ∷ lexemes_in files (drop n ts)) two))
    ∙ ap (λ o. more i (formals_from o (separator (lexeme_in files (get_or ts (i + 1) d))) seen (λ names. formals_form names (lexemes_in files (drop (i + 2) ts))))) (sym e)
    ∙ ap (λ s. more i (formals_from (Some name) s seen (λ names. formals_form names (lexemes_in files (drop (i + 2) ts))))) (sym f)
    ∙ ap (λ n. record { taken = n; meaning = (formals_form (seen ++ name ∷ []) (lexemes_in files (drop (i + 2) ts))).meaning }) sums
  where
    two : i + 1 + 1 ≡ i + 2
    two = omega arith

    sums : i + (2 + (formals_form (seen ++ name ∷ []) (lexemes_in files (drop (i + 2) ts))).taken) ≡ i + 2 + (formals_form (seen ++ name ∷ []) (lexemes_in files (drop (i + 2) ts))).taken
    sums = omega arith

-- a last formal, and the list's end
pub formals_closed : (files : List FileText) (ts : List Token) (i : ℕ) (d : Token) (seen : List Bytes) (name : Bytes) → 1 < length ts - i
    → Some name ≡ new_name_as seen (name_of (lexeme_in files (get_or ts i d)))
    → closing ≡ separator (lexeme_in files (get_or ts (i + 1) d))
    → more i (formals_form seen (lexemes_in files (drop i ts))) ≡ record { taken = i + 2; meaning = Some (seen ++ name ∷ []) }
formals_closed files ts i d seen name h e f =
    ap (λ l. more i (formals_form seen l)) (lexemes_more files ts i d (omega arith)
    ∙ ap (λ l. lexeme_in files (get_or ts i d) ∷ l) (lexemes_more files ts (i + 1) d (omega arith) ∙ ap (λ n. lexeme_in files (get_or ts (i + 1) d) ∷ lexemes_in files (drop n ts)) two))
    ∙ ap (λ o. more i (formals_from o (separator (lexeme_in files (get_or ts (i + 1) d))) seen (λ names. formals_form names (lexemes_in files (drop (i + 2) ts))))) (sym e)
    ∙ ap (λ s. more i (formals_from (Some name) s seen (λ names. formals_form names (lexemes_in files (drop (i + 2) ts))))) (sym f)
  where
    two : i + 1 + 1 ≡ i + 2
    two = omega arith

-- at the end of the tokens
pub formals_end : (files : List FileText) (ts : List Token) (i : ℕ) (seen : List Bytes) → i ≤ length ts → length ts - i ≤ 1
    → more i (formals_form seen (lexemes_in files (drop i ts))) ≡ record { taken = length ts; meaning = None }
formals_end files ts i seen h k = by_left (drop i ts) (length-drop i ts)
  where
    by_left : (left : List Token) → length left ≡ length ts - i
        → more i (formals_form seen (lexemes_in files left)) ≡ record { taken = length ts; meaning = None }
    by_left [] e = ap (λ n. record { taken = n; meaning = None }) (omega arith)
    by_left (t ∷ []) e = ap (λ n. record { taken = n; meaning = None }) (omega arith)
    by_left (t ∷ u ∷ left) e = absurd (omega arith)

utf8_test : (b : Bool) (content : Bytes) → b ≡ true → (if b then Some content else None) ≡ Some content
utf8_test true content e = refl
utf8_test false content e = cc

-- a string's content, where it is UTF-8 or isn't
pub named_file : (content : Bytes) (o : Option Bytes) → Some content ≡ o → IsUtf8 content → file_name_as o ≡ Some content
named_file content o e h = ap file_name_as (sym e) ∙ utf8_test (is_utf8 content) content (is_utf8-from_IsUtf8 content h)

pub unnamed_file : (content : Bytes) (o : Option Bytes) → Some content ≡ o → (IsUtf8 content → ⊥) → file_name_as o ≡ None
unnamed_file content o e h = ap file_name_as (sym e) ∙ by_test (is_utf8 content) refl
  where
    by_test : (b : Bool) → is_utf8 content ≡ b → (if b then Some content else None) ≡ None
    by_test true f = absurd (h (IsUtf8-from_is_utf8 content f))
    by_test false f = refl

pub drop_map : {X Y : Type 0} (f : X → Y) (n : ℕ) (xs : List X) → drop n (map f xs) ≡ map f (drop n xs)
drop_map f zero xs = refl
drop_map f (suc n) [] = refl
drop_map f (suc n) (x ∷ xs) = drop_map f n xs

-- a definition after its name, by whether a list of formals begins
pub after_name_turn : (files : List FileText) (t : Lexeme) (rest : List Token) (d : Token) (name : Bytes) (b : Bool) → 0 < length rest
    → b ≡ (is_spelled (codes "(") (lexeme_in files (get_or rest 0 d)) && follows_directly t (lexeme_in files (get_or rest 0 d)))
    → after_name t (lexemes_in files rest) (Some name) ≡ list_or_body b name (lexemes_in files rest) (lexemes_in files (drop 1 rest))
after_name_turn files t [] d name b h e = absurd (omega arith)
after_name_turn files t (u ∷ rest) d name b h e =
    ap (λ b. list_or_body b name (lexemes_in files (u ∷ rest)) (lexemes_in files rest)) (sym e)

pub no_empty : {X : Type 0} (xs : List X) → (length xs == 0) ≡ false → 0 < length xs
no_empty [] e = cc
no_empty (x ∷ xs) e = omega arith
