-- The names of fields tell them: the field of a name that a struct may have is the one that spells it.
use Rattle.std.proofs.Common.{◌≡◌, inl, inr, ◌<◌, ◌≤◌, ◌+◌, ◌-◌, ◌*◌, ◌^◌, ℕ, zero, suc, List, [], ◌∷◌, length, drop, get_or, refl, ap, sym, subst, ◌∙◌, arith}
use Rattle.std.specs.Prelude.{Bool, true, false, not, ◌==◌, ◌&&◌, ◌||◌, ◌/◌, if◌then◌else◌, nat_lt, fold}
use Rattle.std.specs.Fmt.{digits_onto, digits, decimal}
use Rattle.std.specs.List.{list_all}
use Rattle.std.proofs.lemmas.Bool.{and_parts, ltb-true, eqb-true, cases_lt}
use Rattle.std.proofs.lemmas.Bool.Decides.{nat_tests}
use Rattle.std.proofs.lemmas.Fmt.{length-decimal-le_wide}
use Rattle.std.proofs.lemmas.Slice.Eq.{bytes_eq-Decides}
use Rattle.va_base.specs.Numerals.{number_of}
use Rattle.va_base.specs.Spelling.{is_digit}
use Rattle.va_base.proofs.NumberOf.{next_number, number_of-fold}
use Rattle.c_tree.specs.declared.body.CField.{CField}
use Rattle.c_tree.specs.declared.body.CField.TheVariants.{Param, Given, Resist, React, EntryResist, EntryReact, OpVar, Stored, Temperature}
use Rattle.c_tree.specs.RawOf.{field_of}
use Rattle.c_tree.specs.Spelling.{is_number_text, is_field_name}
use Rattle.c_tree.specs.Text.{field_word}
use Rattle.c_tree.specs.rules.Fields.{same_field}
use Rattle.c_law_words.proofs.Digits.{decimal_written}

cond_true : {T : Type 0} (test : Bool) (x y : T) → test ≡ true → (if test then x else y) ≡ x
cond_true test x y h = rw h refl

cond_false : {T : Type 0} (test : Bool) (x y : T) → test ≡ false → (if test then x else y) ≡ y
cond_false test x y h = rw h refl

-- what is written of a number gives it back, up to 64 digits
given_back : (n : ℕ) → n < 10 ^ 64 → number_of (decimal n) ≡ n
given_back n h = (decimal_written n h).value

power_some : (k : ℕ) → 0 < 10 ^ k
power_some zero = omega arith
power_some (suc k) = let some = power_some k in omega (arith, some)

power_more : (d k : ℕ) → 10 ^ k ≤ 10 ^ (d + k)
power_more zero k = let same : 0 + k ≡ k = omega arith in subst (λ n. 10 ^ k ≤ 10 ^ n) (sym same) (omega arith)
power_more (suc d) k =
    let less = power_more d k in
    let same : suc (d + k) ≡ suc d + k = omega arith in
    let more : 10 ^ k ≤ 10 ^ suc (d + k) = omega (arith, less) in
    subst (λ n. 10 ^ k ≤ 10 ^ n) same more

-- of a greater number 64 digits are written
many_onto : (k n : ℕ) (acc : List ℕ) → 10 ^ k ≤ n → length (digits_onto k 10 false n acc) ≡ k + length acc
many_onto zero n acc h = omega arith
many_onto (suc k) n acc h = by_test (n / 10 == 0) refl (λ digit g. many_onto k (n / 10) (digit ∷ acc) g)
  where
    by_test : (test : Bool) → (n / 10 == 0) ≡ test
        → ((digit : ℕ) → 10 ^ k ≤ n / 10 → length (digits_onto k 10 false (n / 10) (digit ∷ acc)) ≡ k + suc (length acc))
        → length (digits_onto (suc k) 10 false n acc) ≡ suc k + length acc
    by_test true e later =
        let some : 0 < 10 ^ k = power_some k in
        let none : n / 10 ≡ 0 = eqb-true (n / 10) 0 e in
        absurd (let no : ⊥ = omega (arith, some, none, h) in no)
    by_test false e later =
        let same : k + suc (length acc) ≡ suc k + length acc = omega arith in
        ap length (cond_false (n / 10 == 0) _ _ e) ∙ later _ (omega (arith, h)) ∙ same

many_digits : (n : ℕ) → 10 ^ 64 ≤ n → length (decimal n) ≡ 64
unfolding digits
many_digits n h = many_onto 64 n [] h

-- digits without a leading zero give a number that is as great as their count tells
great : (j a : ℕ) (ds : List ℕ) → list_all is_digit ds ≡ true → 10 ^ j ≤ a → 10 ^ (j + length ds) ≤ fold next_number a ds
great j a [] h g = let same : j + 0 ≡ j = omega arith in subst (λ k. 10 ^ k ≤ a) (sym same) g
great j a (d ∷ ds) h g =
    let p = and_parts (is_digit d) (list_all is_digit ds) h in
    let next : next_number a d ≡ 10 * a + (d - 48) = cond_true (is_digit d) (10 * a + (d - 48)) a p.0 in
    let more : 10 ^ suc j ≤ next_number a d = omega (arith, next, g) in
    let same : suc j + length ds ≡ j + suc (length ds) = omega arith in
    subst (λ k. 10 ^ k ≤ fold next_number (next_number a d) ds) same (great (suc j) (next_number a d) ds p.1 more)

few_digits : (ds : List ℕ) → is_number_text ds ≡ true → length ds < 64
few_digits [] h = omega arith
few_digits (c ∷ []) h = omega arith
few_digits (c ∷ d ∷ rest) h =
    let ds = d ∷ rest in
    let p = and_parts (not (c == 48) && list_all is_digit (c ∷ ds)) (nat_lt (number_of (c ∷ ds)) (2 ^ 32)) h in
    let q = and_parts (not (c == 48)) (list_all is_digit (c ∷ ds)) p.0 in
    let r = and_parts (is_digit c) (list_all is_digit ds) q.1 in
    let small : number_of (c ∷ ds) < 2 ^ 32 = ltb-true (number_of (c ∷ ds)) (2 ^ 32) p.1 in
    let first : next_number 0 c ≡ 10 * 0 + (c - 48) = cond_true (is_digit c) (10 * 0 + (c - 48)) 0 r.0 in
    let some : 10 ^ 0 ≤ next_number 0 c = nonzero c (next_number 0 c) first r.0 q.0 in
    let whole : number_of (c ∷ ds) ≡ fold next_number (next_number 0 c) ds = number_of-fold (c ∷ ds) in
    let same : 0 + length ds ≡ length ds = omega arith in
    let much : 10 ^ length ds ≤ fold next_number (next_number 0 c) ds =
    subst (λ k. 10 ^ k ≤ fold next_number (next_number 0 c) ds) same (great 0 (next_number 0 c) ds r.1 some) in
    bounded (length ds) (number_of (c ∷ ds)) (rw whole much) small
  where
    nonzero : (c n : ℕ) → n ≡ 10 * 0 + (c - 48) → is_digit c ≡ true → not (c == 48) ≡ true → 10 ^ 0 ≤ n
    nonzero c n e d z = grind (arith, nat_tests)

    bounded : (k n : ℕ) → 10 ^ k ≤ n → n < 2 ^ 32 → suc k < 64
    bounded k n m s =
        elim (cases_lt k 62) [
          | inl e ↦ omega (arith, e)
          | inr e ↦ absurd (
              let more = power_more (k - 62) 62 in
              let same : k - 62 + 62 ≡ k = omega (arith, e) in
              let least : 10 ^ 62 ≤ 10 ^ k = subst (λ j. 10 ^ 62 ≤ 10 ^ j) same more in
              let no : ⊥ = omega (arith, least, m, s) in
              no
              )
        ]

-- a number that is written in the name of a field
number_back : (n : ℕ) → is_number_text (decimal n) ≡ true → number_of (decimal n) ≡ n
number_back n h =
    elim (cases_lt n (10 ^ 64)) [
      | inl e ↦ given_back n e
      | inr e ↦ absurd (
          let few = few_digits (decimal n) h in
          let many = many_digits n e in
          let no : ⊥ = omega (arith, few, many) in
          no
          )
    ]

from_or : (test : Bool) → (test || false) ≡ true → test ≡ true
from_or true h = refl
from_or false h = h

lettered_back : (make : ℕ → CField) (n : ℕ) (others : CField) → (is_number_text (decimal n) || false) ≡ true
    → (if is_number_text (decimal n) then make (number_of (decimal n)) else others) ≡ make n
lettered_back make n others h =
    let e = from_or (is_number_text (decimal n)) h in
    cond_true (is_number_text (decimal n)) (make (number_of (decimal n))) others e ∙ ap make (number_back n e)

pub name_back : (f : CField) → is_field_name (field_word f) ≡ true → field_of (field_word f) ≡ f
name_back (Param i) h = lettered_back Param i _ h
name_back (Given i) h = lettered_back Given i _ h
name_back (Resist i) h = lettered_back Resist i _ h
name_back (React i) h = lettered_back React i _ h
name_back (EntryResist i) h = lettered_back EntryResist i _ h
name_back (EntryReact i) h = lettered_back EntryReact i _ h
name_back (OpVar i) h = lettered_back OpVar i _ h
name_back (Stored i) h = lettered_back Stored i _ h
name_back Temperature h = refl

same_number : (j i : ℕ) → i < 2 ^ 32 → decimal j ≡ decimal i → j ≡ i
same_number j i h e =
    elim (cases_lt j (10 ^ 64)) [
      | inl less ↦ sym (given_back j less) ∙ ap number_of e ∙ given_back i (omega (arith, h))
      | inr more ↦ absurd (
          let many = many_digits j more in
          let few = length-decimal-le_wide 10 i (omega arith) (omega (arith, h)) (omega (arith, h)) in
          let same : length (decimal j) ≡ length (decimal i) = ap length e in
          let no : ⊥ = omega (arith, few, many, same) in
          no
          )
    ]

-- words with different first letters
other : {T : Type 0} (a b : List ℕ) (x y : ℕ) → get_or a 0 0 ≡ x → get_or b 0 0 ≡ y → nat_lt x y || nat_lt y x ≡ true → a ≡ b → T
other a b x y p q h e = absurd (let same : x ≡ y = sym p ∙ ap (λ l. get_or l 0 0) e ∙ q in let no : ⊥ = grind (arith, nat_tests) in no)

same_word : (f g : CField) → same_field f g ≡ true → field_word f ≡ field_word g
same_word f g h = (bytes_eq-Decides (field_word f) (field_word g)).0 h

resist_told : (f : CField) (i : ℕ) → i < 2 ^ 32 → field_word f ≡ field_word (Resist i) → f ≡ Resist i
resist_told (Param j) i h e = other (field_word (Param j)) (field_word (Resist i)) 112 114 refl refl refl e
resist_told (Given j) i h e = other (field_word (Given j)) (field_word (Resist i)) 103 114 refl refl refl e
resist_told (Resist j) i h e = ap Resist (same_number j i h (ap (drop 1) e))
resist_told (React j) i h e = other (field_word (React j)) (field_word (Resist i)) 113 114 refl refl refl e
resist_told (EntryResist j) i h e = other (field_word (EntryResist j)) (field_word (Resist i)) 101 114 refl refl refl e
resist_told (EntryReact j) i h e = other (field_word (EntryReact j)) (field_word (Resist i)) 101 114 refl refl refl e
resist_told (OpVar j) i h e = other (field_word (OpVar j)) (field_word (Resist i)) 111 114 refl refl refl e
resist_told (Stored j) i h e = other (field_word (Stored j)) (field_word (Resist i)) 104 114 refl refl refl e
resist_told Temperature i h e = other (field_word Temperature) (field_word (Resist i)) 116 114 refl refl refl e

react_told : (f : CField) (i : ℕ) → i < 2 ^ 32 → field_word f ≡ field_word (React i) → f ≡ React i
react_told (Param j) i h e = other (field_word (Param j)) (field_word (React i)) 112 113 refl refl refl e
react_told (Given j) i h e = other (field_word (Given j)) (field_word (React i)) 103 113 refl refl refl e
react_told (Resist j) i h e = other (field_word (Resist j)) (field_word (React i)) 114 113 refl refl refl e
react_told (React j) i h e = ap React (same_number j i h (ap (drop 1) e))
react_told (EntryResist j) i h e = other (field_word (EntryResist j)) (field_word (React i)) 101 113 refl refl refl e
react_told (EntryReact j) i h e = other (field_word (EntryReact j)) (field_word (React i)) 101 113 refl refl refl e
react_told (OpVar j) i h e = other (field_word (OpVar j)) (field_word (React i)) 111 113 refl refl refl e
react_told (Stored j) i h e = other (field_word (Stored j)) (field_word (React i)) 104 113 refl refl refl e
react_told Temperature i h e = other (field_word Temperature) (field_word (React i)) 116 113 refl refl refl e

-- a field that is spelled as that of a node's residual is that field
pub resist_same : (f : CField) (i : ℕ) → i < 2 ^ 32 → same_field f (Resist i) ≡ true → f ≡ Resist i
resist_same f i h e = resist_told f i h (same_word f (Resist i) e)

pub react_same : (f : CField) (i : ℕ) → i < 2 ^ 32 → same_field f (React i) ≡ true → f ≡ React i
react_same f i h e = react_told f i h (same_word f (React i) e)
