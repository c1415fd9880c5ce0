-- What names give: the numbers in them, the fields that they name, and the functions.
use Rattle.std.proofs.Common.{◌≡◌, inl, inr, ◌<◌, ◌^◌, ℕ, zero, suc, List, [], ◌∷◌, drop, get_or, refl, ap, sym, subst, ◌∙◌, arith, Some, None, Option, eq-eqb}
use Rattle.std.specs.Prelude.{Bool, true, false, not, ◌==◌, ◌&&◌, ◌||◌, if◌then◌else◌, decimal, codes, slice_get}
use Rattle.std.specs.List.{list_all, list_any, prefix_len}
use Rattle.std.specs.Option.{unwrap_or}
use Rattle.std.specs.Str.{bytes_eq}
use Rattle.std.proofs.lemmas.Bool.{and_parts, and_from, or_cases, ltb-true}
use Rattle.std.proofs.lemmas.Slice.Eq.{bytes_eq-Decides}
use Rattle.va_base.specs.Spelling.{is_digit}
use Rattle.va_base.specs.Numerals.{number_of}
use Rattle.va_base.proofs.Longest.{some_none, some_same}
use Rattle.va_base.proofs.Tests.{true_not_false, or_left, or_right}
use Rattle.c_tree.specs.Words.{Word, template, numbered}
use Rattle.c_tree.specs.Text.{field_word}
use Rattle.c_tree.specs.Spelling.{EachHas, is_unsigned, is_number_text, is_lettered, is_field_name, spells_field, spells_callee}
use Rattle.c_tree.specs.declared.body.CCallee.TheVariants as callee
use Rattle.c_tree.specs.declared.body.CField.TheVariants.{Param, Given, Resist, React, EntryResist, EntryReact, OpVar, Stored, Temperature}
use Rattle.alg_laws.specs.declared.function.Fun1.TheVariants.{Exp}
use Rattle.c_tree.specs.declared.token.CTokenKind.TheVariants.{Word as OfWord}
use Rattle.c_syntax.specs.grammar.Names.{place_of}
use Rattle.c_syntax.specs.grammar.Kinds.{is_no_digit, numbered_names, numbered_kinds, kind_with_place, function_names}
use Rattle.c_raw_build.specs.Words.{letters_of, field_lettered, library_functions}
use Rattle.c_law_words.proofs.Digits.{IsDecimal, decimal_written}
use Rattle.c_law_words.specs.Values.{field_in, library_function}
use Rattle.c_raw_build.specs.Due.{IsOfKind}
use Rattle.c_raw_build.proofs.NameNumbers.{name_value, numbered_found, temp_word}
use Rattle.c_raw_build.proofs.WordKinds.{place_holds, got_passes, token_is, numbered_cases}
use Rattle.c_law_words.proofs.Pieces.{◌▹◌}

-- Fields.
abbrev field_letters : List Word
field_letters = codes "p" ∷ codes "g" ∷ codes "r" ∷ codes "q" ∷ codes "er" ∷ codes "eq" ∷ codes "o" ∷ codes "h" ∷ []

-- a test on each pair of a name and a kind
abbrev each_pair : (Word → ℕ → Bool) → List Word → List ℕ → Bool
each_pair test [] kinds = true
each_pair test (name ∷ names) [] = false
each_pair test (name ∷ names) (kind ∷ kinds) = test name kind && each_pair test names kinds

pair_told : (test : Word → ℕ → Bool) (names : List Word) (kinds : List ℕ) (w : Word) (i : ℕ) → each_pair test names kinds ≡ true → slice_get names i ≡ Some w
    → test w (get_or kinds i 1) ≡ true
pair_told test [] kinds w i h e = absurd (some_none (sym e))
pair_told test (name ∷ names) [] w i h e = absurd (true_not_false h refl)
pair_told test (name ∷ names) (kind ∷ kinds) w zero h e =
    subst (λ n. test n kind ≡ true) (some_same e) (and_parts (test name kind) (each_pair test names kinds) h).0
pair_told test (name ∷ names) (kind ∷ kinds) w (suc i) h e = pair_told test names kinds w i (and_parts (test name kind) (each_pair test names kinds) h).1 e

abbrev is_field_letters : Word → ℕ → Bool
is_field_letters name kind = not (kind == 14) || list_any (bytes_eq name) field_letters

fields_named : each_pair is_field_letters numbered_names numbered_kinds ≡ true
unfolding numbered_names template
fields_named = refl

implied : (a b : Bool) → (not a || b) ≡ true → a ≡ true → b ≡ true
implied true b h e = h
implied false b h e = absurd (true_not_false e refl)

letters_found : (name : Word) → kind_with_place numbered_kinds (place_of numbered_names name) ≡ Some 14 → list_any (bytes_eq name) field_letters ≡ true
letters_found name h = by_place (place_of numbered_names name) refl h
  where
    by_place : (o : Option ℕ) → place_of numbered_names name ≡ o → kind_with_place numbered_kinds o ≡ Some 14 → list_any (bytes_eq name) field_letters ≡ true
    by_place None p h = absurd (some_none (sym h))
    by_place (Some i) p h =
        let told = pair_told is_field_letters numbered_names numbered_kinds name i fields_named (place_holds numbered_names name i p) in
        let kind : (get_or numbered_kinds i 1 == 14) ≡ true = ap (λ n. n == 14) (some_same h) in
        implied (get_or numbered_kinds i 1 == 14) (list_any (bytes_eq name) field_letters) told kind

-- a fact for each of some names holds for a name among them
among_names : (P : Word → Type 0) (name : Word) (names : List Word) → list_any (bytes_eq name) names ≡ true → EachHas P names → P name
among_names P name [] h each = absurd (true_not_false h refl)
among_names P name (other ∷ names) h each =
    elim (or_cases (bytes_eq name other) (list_any (bytes_eq name) names) h) [
      | inl e ↦ subst P (sym ((bytes_eq-Decides name other).0 e)) each.0
      | inr e ↦ among_names P name names e each.1
    ]

number_text : (n : ℕ) (ds : List ℕ) → is_unsigned n ≡ true → IsDecimal n ds → is_number_text ds ≡ true
number_text n [] h d = absurd (true_not_false d.some refl)
number_text n (c ∷ []) h d = d.some
number_text n (c ∷ e ∷ rest) h d =
    and_from (not (c == 48) && list_all is_digit (c ∷ e ∷ rest)) (is_unsigned (number_of (c ∷ e ∷ rest)))
    (and_from (not (c == 48)) (list_all is_digit (c ∷ e ∷ rest)) d.plain d.digits) (ap is_unsigned d.value ∙ h)

written_number : (n : ℕ) → is_unsigned n ≡ true → is_number_text (decimal n) ≡ true
written_number n h =
    let less : n < 2 ^ 32 = ltb-true n (2 ^ 32) h in
    number_text n (decimal n) h (decimal_written n (omega (arith, less)))

-- letters that are among some stand before a number
lettered_found : (name letters : Word) (all : List Word) → list_any (bytes_eq letters) all ≡ true → is_lettered name letters ≡ true
    → list_any (is_lettered name) all ≡ true
lettered_found name letters [] h l = absurd (true_not_false h refl)
lettered_found name letters (other ∷ all) h l =
    elim (or_cases (bytes_eq letters other) (list_any (bytes_eq letters) all) h) [
      | inl e ↦ or_left (is_lettered name other) (list_any (is_lettered name) all) (subst (λ m. is_lettered name m ≡ true) ((bytes_eq-Decides letters other).0 e) l)
      | inr e ↦ or_right (is_lettered name other) (list_any (is_lettered name) all) (lettered_found name letters all e l)
    ]

-- letters whose field has the name of these letters
abbrev Named : Word → Type 0
Named letters = (n : ℕ) → is_unsigned n ≡ true → is_field_name (field_word (field_lettered letters n)) ≡ true

each_named : EachHas Named field_letters
each_named =
    (λ n h. lettered_found (numbered (codes "p") n) (codes "p") field_letters refl (written_number n h))
    ▹ (λ n h. lettered_found (numbered (codes "g") n) (codes "g") field_letters refl (written_number n h))
    ▹ (λ n h. lettered_found (numbered (codes "r") n) (codes "r") field_letters refl (written_number n h))
    ▹ (λ n h. lettered_found (numbered (codes "q") n) (codes "q") field_letters refl (written_number n h))
    ▹ (λ n h. lettered_found (numbered (codes "er") n) (codes "er") field_letters refl (written_number n h))
    ▹ (λ n h. lettered_found (numbered (codes "eq") n) (codes "eq") field_letters refl (written_number n h))
    ▹ (λ n h. lettered_found (numbered (codes "o") n) (codes "o") field_letters refl (written_number n h))
    ▹ (λ n h. lettered_found (numbered (codes "h") n) (codes "h") field_letters refl (written_number n h)) ▹ tt

pub field_name_value : (w : Word) → IsOfKind 14 w → is_field_name (field_word (field_in w)) ≡ true
field_name_value w h =
    let rest = drop (prefix_len is_no_digit w) w in
    elim (numbered_cases (letters_of w) rest 14 (numbered_found 14 w (token_is OfWord 14 w refl h) refl h)) [
      | inl n ↦ among_names Named (letters_of w) field_letters (letters_found (letters_of w) n.kind) each_named (number_of w) (name_value 14 w refl refl refl h)
      | inr f ↦ absurd (true_not_false (eq-eqb 15 14 f.kind) refl)
    ]

-- a field is spelled with its number
lettered_spelled : (letters : Word) (n : ℕ) → is_unsigned n ≡ true → spells_field (field_lettered letters n) ≡ true
lettered_spelled letters n h =
    by_tests (bytes_eq letters (codes "p")) (bytes_eq letters (codes "g")) (bytes_eq letters (codes "r")) (bytes_eq letters (codes "q"))
    (bytes_eq letters (codes "er")) (bytes_eq letters (codes "eq")) (bytes_eq letters (codes "o")) (bytes_eq letters (codes "h"))
  where
    by_tests : (p g r q er ec o s : Bool) → spells_field (if p then Param n else (if g then Given n else (if r then Resist n else (if q then React n
        else (if er then EntryResist n else (if ec then EntryReact n else (if o then OpVar n else (if s then Stored n else Temperature)))))))) ≡ true
    by_tests true g r q er ec o s = h
    by_tests false true r q er ec o s = h
    by_tests false false true q er ec o s = h
    by_tests false false false true er ec o s = h
    by_tests false false false false true ec o s = h
    by_tests false false false false false true o s = h
    by_tests false false false false false false true s = h
    by_tests false false false false false false false true = h
    by_tests false false false false false false false false = refl

pub field_value : (w : Word) → IsOfKind 14 w → spells_field (field_in w) ≡ true
field_value w h = lettered_spelled (letters_of w) (number_of w) (name_value 14 w refl refl refl h)

pub temp_value : (w : Word) → IsOfKind 93 w → spells_field (field_in w) ≡ true
temp_value w h = subst (λ l. spells_field (field_in l) ≡ true) (sym (temp_word w h)) refl

-- functions of C's library
pub library_value : (w : Word) → spells_callee (library_function w) ≡ true
library_value w = got_passes spells_callee library_functions (unwrap_or (place_of function_names w) 0) (callee.Fun1 Exp) refl refl
