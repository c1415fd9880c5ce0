-- The numbers in names are of 32 bits.
use Rattle.std.proofs.Common.{◌≡◌, inl, inr, ◌+◌, ◌≤◌, ℕ, suc, List, [], ◌∷◌, ◌++◌, length, take, drop, refl, ap, sym, subst, ◌∙◌, arith, Some, None, Option, eqb-true, eq-eqb}
use Rattle.std.specs.Prelude.{Bool, true, false, not, ◌==◌, if◌then◌else◌, nat_eq, codes, slice_get}
use Rattle.std.specs.List.{list_all, prefix_len, filter}
use Rattle.std.specs.Option.{unwrap_or, is_some}
use Rattle.std.proofs.lemmas.Bool.{and_parts}
use Rattle.std.proofs.lemmas.List.{take-append-drop}
use Rattle.va_base.specs.Spelling.{is_digit}
use Rattle.va_base.specs.Numerals.{number_of}
use Rattle.va_base.proofs.Longest.{some_same}
use Rattle.va_base.proofs.Tests.{true_not_false}
use Rattle.c_tree.specs.Words.{Word, template}
use Rattle.c_tree.specs.Spelling.{is_unsigned}
use Rattle.c_tree.specs.declared.token.CTokenKind.TheVariants.{Word as OfWord}
use Rattle.c_tree.specs.tokens.Spelling.{token_kind}
use Rattle.c_syntax.specs.grammar.Names.{word_names, place_of}
use Rattle.c_syntax.specs.grammar.Kinds.{is_number_in_name, is_second_number, is_no_digit, numbered_kind, function_names, kind_from, plain_word_kind, kind_of}
use Rattle.c_raw_build.specs.Due.{IsOfKind}
use Rattle.c_raw_build.specs.Words.{first_number, second_number, letters_of}
use Rattle.c_raw_build.proofs.WordKinds.{place_holds, may_have, all_kinds, token_is, is_plain_kind, plain_kind, is_numbered_kind, numbered_has, numbered_cases, listed_kind}
use Rattle.c_raw_build.proofs.Numbers.{front_all, digits_behind, name_number}

-- a word's kind, where it is one of a name with a number
pub numbered_found : (k : ℕ) (w : Word) → token_kind w ≡ OfWord → is_plain_kind k ≡ false → IsOfKind k w
    → numbered_kind (letters_of w) (drop (prefix_len is_no_digit w) w) ≡ Some k
numbered_found k w t plain h = by_number (numbered_kind (letters_of w) (drop (prefix_len is_no_digit w) w)) (sym (ap (λ c. kind_of c w) t) ∙ h.kind_is)
  where
    by_number : (o : Option ℕ) → unwrap_or o (plain_word_kind w) ≡ k → o ≡ Some k
    by_number None e = absurd (true_not_false (ap is_plain_kind (sym e) ∙ plain_kind w) plain)
    by_number (Some j) e = ap Some e

letters_silent : (w : Word) → number_of w ≡ number_of (drop (prefix_len is_no_digit w) w)
letters_silent w =
    ap number_of (sym (take-append-drop (prefix_len is_no_digit w) w))
    ∙ digits_behind (letters_of w) (drop (prefix_len is_no_digit w) w) (front_all is_no_digit w)

pub name_value : (k : ℕ) (w : Word) → filter (λ kind. may_have kind k) all_kinds ≡ OfWord ∷ [] → is_plain_kind k ≡ false → nat_eq 15 k ≡ false → IsOfKind k w
    → is_unsigned (number_of w) ≡ true
name_value k w only plain other h =
    elim (numbered_cases (letters_of w) (drop (prefix_len is_no_digit w) w) k (numbered_found k w (token_is OfWord k w only h) plain h)) [
      | inl n ↦ subst (λ m. is_unsigned m ≡ true) (sym (letters_silent w)) (name_number (drop (prefix_len is_no_digit w) w) n.number)
      | inr f ↦ absurd (true_not_false (eq-eqb 15 k f.kind) other)
    ]

-- the second number of a function
second_found : (rest : List ℕ) → is_second_number rest ≡ true → is_unsigned (number_of rest) ≡ true
second_found [] h = absurd (true_not_false h refl)
second_found (c ∷ ds) h =
    let p = and_parts (c == 95) (is_number_in_name ds) h in
    let quiet : list_all is_no_digit (c ∷ []) ≡ true = subst (λ n. list_all is_no_digit (n ∷ []) ≡ true) (sym (eqb-true c 95 p.0)) refl in
    subst (λ n. is_unsigned n ≡ true) (sym (digits_behind (c ∷ []) ds quiet)) (name_number ds p.1)

-- the name of a module's function: its two numbers stand behind `fn_`
pub record IsFunctionName (w : Word) : Type 0 where
  pub long : 3 ≤ length w
  pub first : is_unsigned (first_number w) ≡ true
  pub second : is_unsigned (second_number w) ≡ true

pub function_name : (w : Word) → IsOfKind 15 w → IsFunctionName w
function_name w h =
    let rest = drop (prefix_len is_no_digit w) w in
    elim (numbered_cases (letters_of w) rest 15 (numbered_found 15 w (token_is OfWord 15 w refl h) refl h)) [
      | inl n ↦ absurd (true_not_false (and_parts (is_numbered_kind 15) (not (15 == 15)) (listed_kind (letters_of w) 15 n.kind)).1 refl)
      | inr f ↦
          let whole : w ≡ codes "fn_" ++ rest = sym (take-append-drop (prefix_len is_no_digit w) w) ∙ ap (λ l. l ++ rest) f.name_is in
          let behind : drop 3 w ≡ rest = ap (drop 3) whole in
          let two = and_parts (is_number_in_name (take (prefix_len is_digit rest) rest)) (is_second_number (drop (prefix_len is_digit rest) rest)) f.numbers in
          let size : length w ≡ suc (suc (suc (length rest))) = ap length whole in
          record {
            long = omega (arith, size);
            first = subst (λ l. is_unsigned (number_of (take (prefix_len is_digit l) l)) ≡ true) (sym behind) (name_number (take (prefix_len is_digit rest) rest) two.0);
            second = subst (λ l. is_unsigned (number_of (drop (prefix_len is_digit l) l)) ≡ true) (sym behind) (second_found (drop (prefix_len is_digit rest) rest) two.1);
          }
    ]

pub function_value : (w : Word) → IsOfKind 15 w → is_unsigned (second_number w) ≡ true
function_value w h = (function_name w h).second

temp_listed : (i : ℕ) (w : Word) → i ≡ 28 → slice_get word_names i ≡ Some w → w ≡ codes "temp"
unfolding word_names template
temp_listed i w e s = sym (some_same (subst (λ n. slice_get word_names n ≡ Some w) e s))

-- the word of the kind of `temp`
pub temp_word : (w : Word) → IsOfKind 93 w → w ≡ codes "temp"
temp_word w h = by_number (numbered_kind (letters_of w) (drop (prefix_len is_no_digit w) w)) refl (sym (ap (λ c. kind_of c w) (token_is OfWord 93 w refl h)) ∙ h.kind_is)
  where
    by_place : (o : Option ℕ) → place_of word_names w ≡ o → kind_from 65 o (if is_some (place_of function_names w) then 11 else 1) ≡ 93 → w ≡ codes "temp"
    by_place None p e = absurd (other (is_some (place_of function_names w)) e)
      where
        other : (b : Bool) → kind_from 65 None (if b then 11 else 1) ≡ 93 → ⊥
        other true e = true_not_false (ap (nat_eq 11) (sym e)) refl
        other false e = true_not_false (ap (nat_eq 1) (sym e)) refl
    by_place (Some i) p e = let f : 65 + i ≡ 93 = e in temp_listed i w (omega (arith, f)) (place_holds word_names w i p)

    by_number : (o : Option ℕ) → numbered_kind (letters_of w) (drop (prefix_len is_no_digit w) w) ≡ o → unwrap_or o (plain_word_kind w) ≡ 93 → w ≡ codes "temp"
    by_number None n e = by_place (place_of word_names w) refl e
    by_number (Some k) n e =
        absurd (true_not_false (subst (λ m. is_numbered_kind m ≡ true) e (numbered_has (letters_of w) (drop (prefix_len is_no_digit w) w) k n)) refl)
