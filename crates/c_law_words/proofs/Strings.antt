-- The strings of a text, and the names of fields.
use Rattle.std.proofs.Common.{◌≡◌, inl, inr, ◌<◌, ◌≤◌, ◌+◌, ◌-◌, ◌*◌, ◌^◌, ℕ, zero, suc, List, [], ◌∷◌, ◌++◌, length, take, drop, refl, ap, sym, subst, ◌∙◌, arith, append_assoc}
use Rattle.std.specs.Prelude.{Bool, true, false, not, ◌==◌, ◌&&◌, ◌/◌, ◌%◌, if◌then◌else◌, nat_lt, codes}
use Rattle.std.specs.List.{list_all, list_any, flat_map}
use Rattle.std.specs.Str.{bytes_eq}
use Rattle.std.proofs.lemmas.Bool.{and_parts, and_from, ltb-true, or_cases}
use Rattle.std.proofs.lemmas.Bool.Decides.{nat_tests, eqb_tells}
use Rattle.std.proofs.lemmas.List.{take-append-drop}
use Rattle.std.proofs.lemmas.Slice.Eq.{bytes_eq-Decides}
use Rattle.va_base.specs.Spelling.{is_digit}
use Rattle.va_base.specs.Numerals.{number_of}
use Rattle.va_base.proofs.NumberOf.{number_of-fold}
use Rattle.va_base.proofs.Tests.{true_not_false}
use Rattle.c_tree.specs.Spelling.{are_bytes, is_number_text, is_lettered, is_field_name}
use Rattle.c_tree.specs.Words.{template, stands_as_itself, string_byte, string_word}
use Rattle.c_tree.specs.tokens.Spelling.{is_plain, is_escape, is_string_rest}
use Rattle.c_syntax.proofs.Longest.{cond_true, cond_false}
use Rattle.c_syntax.specs.grammar.Kinds.{is_number_in_name, numbered_names}
use Rattle.c_law_words.proofs.Numbers.{at_most}
use Rattle.c_law_words.proofs.Names.{is_numbered, numbered_word}
use Rattle.c_law_words.proofs.Pieces.{IsWord}

-- a test on each number below some number
abbrev pub all_below : ℕ → (ℕ → Bool) → Bool
all_below zero p = true
all_below (suc n) p = p n && all_below n p

pub below_told : (n i : ℕ) (p : ℕ → Bool) → i < n → all_below n p ≡ true → p i ≡ true
below_told zero i p lt h = absurd (omega (arith, lt))
below_told (suc n) i p lt h =
    let q = and_parts (p n) (all_below n p) h in
    elim (eqb_tells i n) [
      | inl e ↦ subst (λ j. p j ≡ true) (sym e.1) q.0
      | inr e ↦ let other = e.1 in below_told n i p (omega (arith, lt, other)) q.1
    ]

-- a byte as it is spelled in a string
abbrev is_spelled : ℕ → Bool
is_spelled byte =
    if stands_as_itself byte then not (byte == 34) && not (byte == 92) && is_plain byte
    else is_escape (48 + byte / 64) (48 + byte / 8 % 8) (48 + byte % 8)

unfoldable each_is_spelled : Bool
each_is_spelled = all_below 256 is_spelled

bytes_spelled : each_is_spelled ≡ true
unfolding each_is_spelled
bytes_spelled = refl

byte_spelled : (byte : ℕ) → byte < 256 → is_spelled byte ≡ true
unfolding each_is_spelled
byte_spelled byte lt = below_told 256 byte is_spelled lt bytes_spelled

pub not_is : (b : Bool) → not b ≡ true → b ≡ false
not_is true e = absurd (true_not_false e refl)
not_is false e = refl

-- the byte is passed
byte_passed : (byte : ℕ) (b : Bool) (rest : List ℕ) → stands_as_itself byte ≡ b
    → (if b then not (byte == 34) && not (byte == 92) && is_plain byte else is_escape (48 + byte / 64) (48 + byte / 8 % 8) (48 + byte % 8)) ≡ true
    → is_string_rest rest ≡ true
    → is_string_rest ((if b then byte ∷ [] else 92 ∷ (48 + byte / 64) ∷ (48 + byte / 8 % 8) ∷ (48 + byte % 8) ∷ []) ++ rest) ≡ true
byte_passed byte true rest e h r =
    let p = and_parts (not (byte == 34) && not (byte == 92)) (is_plain byte) h in
    let q = and_parts (not (byte == 34)) (not (byte == 92)) p.0 in
    cond_false (byte == 34) _ _ (not_is (byte == 34) q.0) ∙ cond_false (byte == 92) _ _ (not_is (byte == 92) q.1) ∙ and_from (is_plain byte) (is_string_rest rest) p.1 r
byte_passed byte false rest e h r = and_from (is_escape (48 + byte / 64) (48 + byte / 8 % 8) (48 + byte % 8)) (is_string_rest rest) h r

string_passed : (bytes : List ℕ) → are_bytes bytes ≡ true → is_string_rest (flat_map string_byte bytes ++ 34 ∷ []) ≡ true
string_passed [] h = refl
string_passed (b ∷ bytes) h =
    let p = and_parts (nat_lt b 256) (are_bytes bytes) h in
    ap is_string_rest (append_assoc (string_byte b) (flat_map string_byte bytes) (34 ∷ []))
    ∙ byte_passed b (stands_as_itself b) (flat_map string_byte bytes ++ 34 ∷ []) refl (byte_spelled b (ltb-true b 256 p.0)) (string_passed bytes p.1)

pub string_named : (bytes : List ℕ) → are_bytes bytes ≡ true → IsWord 7 (string_word bytes)
unfolding string_word
string_named bytes h =
    record { alone = and_from (is_string_rest (flat_map string_byte bytes ++ 34 ∷ []) && true) true (and_from (is_string_rest (flat_map string_byte bytes ++ 34 ∷ [])) true (string_passed bytes h) refl) refl; kind_is = refl }

-- a number of a name, as files hold it
one_digit_most : (c : ℕ) → is_digit c ≡ true → number_of (c ∷ []) ≤ 4294967295
one_digit_most c h =
    let value : number_of (c ∷ []) ≡ 10 * 0 + (c - 48) = number_of-fold (c ∷ []) ∙ cond_true (is_digit c) _ _ h in
    let most : c ≤ 57 = grind (arith, nat_tests) in
    omega (arith, value, most)

number_text : (ds : List ℕ) → is_number_text ds ≡ true → is_number_in_name ds ≡ true
number_text [] h = absurd (true_not_false h refl)
number_text (c ∷ []) h =
    let all : list_all is_digit (c ∷ []) ≡ true = and_from (is_digit c) true h refl in
    and_from (list_all is_digit (c ∷ []) && true) _ (and_from (list_all is_digit (c ∷ [])) true all refl) (at_most 4294967295 (c ∷ []) all h (one_digit_most c h) (omega arith))
number_text (c ∷ d ∷ rest) h =
    let digits = list_all is_digit (c ∷ d ∷ rest) in
    let p = and_parts (not (c == 48) && digits) (nat_lt (number_of (c ∷ d ∷ rest)) (2 ^ 32)) h in
    let q = and_parts (not (c == 48)) digits p.0 in
    let less : number_of (c ∷ d ∷ rest) < 2 ^ 32 = ltb-true (number_of (c ∷ d ∷ rest)) (2 ^ 32) p.1 in
    and_from (digits && not (c == 48)) _ (and_from digits (not (c == 48)) q.1 q.0)
    (at_most 4294967295 (c ∷ d ∷ rest) q.1 (and_parts (is_digit c) (list_all is_digit (d ∷ rest)) q.1).0 (omega (arith, less)) (omega arith))

lettered : (name letters : List ℕ) → is_numbered letters 14 ≡ true → is_lettered name letters ≡ true → IsWord 14 name
lettered name letters n h =
    let p = and_parts (bytes_eq (take (length letters) name) letters) (is_number_text (drop (length letters) name)) h in
    let front = (bytes_eq-Decides (take (length letters) name) letters).0 p.0 in
    let whole : letters ++ drop (length letters) name ≡ name = ap (λ l. l ++ drop (length letters) name) (sym front) ∙ take-append-drop (length letters) name in
    subst (λ w. IsWord 14 w) whole (numbered_word letters (drop (length letters) name) 14 n (number_text (drop (length letters) name) p.1))

each_lettered : (name : List ℕ) (all : List (List ℕ)) → list_all (λ letters. is_numbered letters 14) all ≡ true → list_any (is_lettered name) all ≡ true → IsWord 14 name
each_lettered name [] n h = absurd (true_not_false h refl)
each_lettered name (letters ∷ all) n h =
    let p = and_parts (is_numbered letters 14) (list_all (λ l. is_numbered l 14) all) n in
    elim (or_cases (is_lettered name letters) (list_any (is_lettered name) all) h) [
      | inl e ↦ lettered name letters p.0 e
      | inr e ↦ each_lettered name all p.1 e
    ]

letters_numbered : list_all (λ letters. is_numbered letters 14) (codes "p" ∷ codes "g" ∷ codes "r" ∷ codes "q" ∷ codes "er" ∷ codes "eq" ∷ codes "o" ∷ codes "h" ∷ []) ≡ true
unfolding is_numbered numbered_names template
letters_numbered = refl

pub field_row_named : (name : List ℕ) → is_field_name name ≡ true → IsWord 14 name
field_row_named name h =
    each_lettered name (codes "p" ∷ codes "g" ∷ codes "r" ∷ codes "q" ∷ codes "er" ∷ codes "eq" ∷ codes "o" ∷ codes "h" ∷ []) letters_numbered h
