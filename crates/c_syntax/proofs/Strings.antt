-- Strings, unit by unit.
use Rattle.std.proofs.Common.{◌≡◌, ◌<◌, ◌+◌, ℕ, suc, List, [], ◌∷◌, length, drop, get_or, refl, ap, sym, ◌∙◌, arith, Some, None}
use Rattle.std.specs.Prelude.{Bool, true, false, ◌==◌, ◌&&◌, cond, IsTrue}
use Rattle.std.proofs.lemmas.Bool.{eqb-true}
use Rattle.va_base.specs.Longest.{one_more, longest}
use Rattle.va_base.specs.Spelling.{is_empty, begins}
use Rattle.va_base.proofs.Longest.{longest-cons, longest-nil}
use Rattle.va_base.proofs.Numerals.{longest-is_empty}
use Rattle.va_base.proofs.Tests.{not_true, true_not_false, and_left, and_right}
use Rattle.c_tree.specs.declared.token.CTokenKind.TheVariants.{Text}
use Rattle.c_tree.specs.tokens.Spelling.{is_plain, is_escape, is_string_rest, is_escape_then}
use Rattle.c_syntax.specs.Fronts.{front, front_of, shifted, begins_escape}
use Rattle.c_syntax.proofs.Longest.{cond_true, cond_false, rest_of, first-literal, none_passes, shifted-one, shifted-four}
use Rattle.c_syntax.proofs.Fronts.{front-some, front-none}

string_quote : (rest : List ℕ) → longest is_string_rest (34 ∷ rest) ≡ Some 1
string_quote rest = longest-cons is_string_rest is_empty 34 rest (λ xs. refl) ∙ ap (one_more false) (longest-is_empty rest)

plain_no_quote : (c : ℕ) → is_plain c ≡ true → (c == 34) ≡ false
plain_no_quote c p = not_true _ (λ q. true_not_false (sym (ap is_plain (eqb-true c 34 q)) ∙ p) refl)

plain_no_backslash : (c : ℕ) → is_plain c ≡ true → (c == 92) ≡ false
plain_no_backslash c p = not_true _ (λ q. true_not_false (sym (ap is_plain (eqb-true c 92 q)) ∙ p) refl)

-- a plain byte
pub string-plain : (text : List ℕ) → begins is_plain text ≡ true → longest is_string_rest text ≡ shifted 1 (longest is_string_rest (drop 1 text))
string-plain [] p = absurd (true_not_false p refl)
string-plain (c ∷ rest) p =
    longest-cons is_string_rest is_string_rest c rest
    (λ xs. cond_false (c == 34) _ _ (plain_no_quote c p) ∙ cond_false (c == 92) _ _ (plain_no_backslash c p) ∙ ap (λ x. x && is_string_rest xs) p)
    ∙ shifted-one (longest is_string_rest rest)

-- an escape
pub string-escape : (text : List ℕ) → begins_escape text ≡ true → longest is_string_rest text ≡ shifted 4 (longest is_string_rest (drop 4 text))
string-escape [] e = absurd (true_not_false e refl)
string-escape (b ∷ []) e = absurd (true_not_false e refl)
string-escape (b ∷ c ∷ []) e = absurd (true_not_false e refl)
string-escape (b ∷ c ∷ d ∷ []) e = absurd (true_not_false e refl)
string-escape (b ∷ c ∷ d ∷ f ∷ rest) e =
    let same = and_right (b == 92) (is_escape c d f) e in
    ap (λ x. longest is_string_rest (x ∷ c ∷ d ∷ f ∷ rest)) (eqb-true b 92 (and_left (b == 92) (is_escape c d f) e))
    ∙ longest-cons is_string_rest is_escape_then 92 (c ∷ d ∷ f ∷ rest) (λ xs. refl)
    ∙ ap (one_more false) (longest-cons is_escape_then (λ xs. is_escape_then (c ∷ xs)) c (d ∷ f ∷ rest) (λ xs. refl)
    ∙ ap (one_more false) (longest-cons (λ xs. is_escape_then (c ∷ xs)) (λ xs. is_escape_then (c ∷ d ∷ xs)) d (f ∷ rest) (λ xs. refl)
    ∙ ap (one_more false) (longest-cons (λ xs. is_escape_then (c ∷ d ∷ xs)) is_string_rest f rest (λ xs. ap (λ x. x && is_string_rest xs) same))))
    ∙ shifted-four (longest is_string_rest rest)

-- no escape stands behind a `\`
no_escape : (text : List ℕ) → begins_escape (92 ∷ text) ≡ false → longest is_escape_then text ≡ None
no_escape [] e = longest-nil is_escape_then [] refl
no_escape (c ∷ []) e =
    longest-cons is_escape_then (λ xs. is_escape_then (c ∷ xs)) c [] (λ xs. refl)
    ∙ ap (one_more false) (longest-nil (λ xs. is_escape_then (c ∷ xs)) [] refl)
no_escape (c ∷ d ∷ []) e =
    longest-cons is_escape_then (λ xs. is_escape_then (c ∷ xs)) c (d ∷ []) (λ xs. refl)
    ∙ ap (one_more false) (longest-cons (λ xs. is_escape_then (c ∷ xs)) (λ xs. is_escape_then (c ∷ d ∷ xs)) d [] (λ xs. refl)
    ∙ ap (one_more false) (longest-nil (λ xs. is_escape_then (c ∷ d ∷ xs)) [] refl))
no_escape (c ∷ d ∷ f ∷ rest) e =
    longest-cons is_escape_then (λ xs. is_escape_then (c ∷ xs)) c (d ∷ f ∷ rest) (λ xs. refl)
    ∙ ap (one_more false) (longest-cons (λ xs. is_escape_then (c ∷ xs)) (λ xs. is_escape_then (c ∷ d ∷ xs)) d (f ∷ rest) (λ xs. refl)
    ∙ ap (one_more false) (longest-cons (λ xs. is_escape_then (c ∷ d ∷ xs)) (λ xs. false) f rest (λ xs. ap (λ x. x && is_string_rest xs) e)
    ∙ ap (one_more false) (none_passes rest)))

-- neither a plain byte nor an escape
pub string-stop : (text : List ℕ) → begins is_plain text ≡ false → begins_escape text ≡ false
    → longest is_string_rest text ≡ cond (begins (λ first. first == 34) text) (Some 1) None
string-stop [] p e = longest-nil is_string_rest [] refl
string-stop (c ∷ rest) p e = stop (c == 34) refl (c == 92) refl
  where
    stop : (a : Bool) → (c == 34) ≡ a → (b : Bool) → (c == 92) ≡ b → longest is_string_rest (c ∷ rest) ≡ cond (c == 34) (Some 1) None
    stop true q b h =
        ap (λ x. longest is_string_rest (x ∷ rest)) (eqb-true c 34 q) ∙ string_quote rest ∙ sym (cond_true (c == 34) (Some 1) None q)
    stop false q true h =
        longest-cons is_string_rest is_escape_then c rest (λ xs. cond_false (c == 34) _ _ q ∙ cond_true (c == 92) _ _ h)
        ∙ ap (one_more false) (no_escape rest (ap (λ x. begins_escape (x ∷ rest)) (sym (eqb-true c 92 h)) ∙ e))
        ∙ sym (cond_false (c == 34) (Some 1) None q)
    stop false q false h =
        longest-cons is_string_rest (λ xs. false) c rest
        (λ xs. cond_false (c == 34) _ _ q ∙ cond_false (c == 92) _ _ h ∙ ap (λ x. x && is_string_rest xs) p)
        ∙ ap (one_more false) (none_passes rest) ∙ sym (cond_false (c == 34) (Some 1) None q)

-- whether a plain byte stands first, by the byte at index 0
pub first-plain : (text : List ℕ) (b : Bool) → 0 < length text → is_plain (get_or text 0 0) ≡ b → begins is_plain text ≡ b
first-plain [] b lt e = absurd (omega arith)
first-plain (c ∷ rest) b lt e = e

pub some_there : (text : List ℕ) → (length text == 0) ≡ false → 0 < length text
some_there [] e = absurd (true_not_false refl e)
some_there (c ∷ rest) e = omega arith

pub string-empty : (text : List ℕ) → length text ≡ 0 → longest is_string_rest text ≡ cond (begins (λ first. first == 34) text) (Some 1) None
string-empty [] e = longest-nil is_string_rest [] refl
string-empty (c ∷ rest) e = absurd (omega (arith, e))

pub front-string : (text : List ℕ) (n : ℕ) → IsTrue (begins (λ first. first == 34) text) → longest is_string_rest (rest_of text) ≡ Some n
    → front_of text ≡ Some (front Text (1 + n))
front-string text n e l =
    ap front_of (first-literal 34 text e)
    ∙ front-some is_string_rest 34 (rest_of text) n Text refl (λ xs. refl) (λ xs. refl) l
    ∙ ap (λ k. Some (front Text k)) (let one : suc n ≡ 1 + n = omega arith in one)

pub front-no_string : (text : List ℕ) → IsTrue (begins (λ first. first == 34) text) → longest is_string_rest (rest_of text) ≡ None → front_of text ≡ None
front-no_string text e l = ap front_of (first-literal 34 text e) ∙ front-none is_string_rest 34 (rest_of text) (λ xs. refl) l
