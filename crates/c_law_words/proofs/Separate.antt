-- A token behind which a separator and more bytes stand is no longer token.
use Rattle.std.proofs.Common.{◌≡◌, ℕ, List, [], ◌∷◌, ◌++◌, refl, ap, ◌∙◌}
use Rattle.std.specs.Prelude.{Bool, true, false, not, ◌==◌, ◌&&◌, if◌then◌else◌, codes}
use Rattle.std.specs.List.{list_all}
use Rattle.va_base.specs.Spelling.{is_digit, is_letter, is_empty, are_some, is_in_line}
use Rattle.va_base.proofs.Tests.{and_right, and_false, true_not_false}
use Rattle.c_tree.specs.tokens.Spelling.{is_word_byte, text_then, is_include_rest, is_after_point, is_in_name, is_power, is_number_tail, is_number_rest, is_plain, is_escape, is_string_rest, is_escape_then, is_double_mark, is_mark, is_token}
use Rattle.c_syntax.proofs.Longest.{cond_false}

-- what a separator isn't
pub record Separates (s : ℕ) : Type 0 where
  pub word_byte : is_word_byte s ≡ false
  pub digit : is_digit s ≡ false
  pub u : (s == 117) ≡ false
  pub e : (s == 101) ≡ false
  pub point : (s == 46) ≡ false
  pub second : (c : ℕ) → is_double_mark c s ≡ false

-- of two tests that a third chooses
either : (b : Bool) (p q x y : Bool) → (b ≡ true → p ≡ true → x ≡ false) → (q ≡ true → y ≡ false) → (if b then p else q) ≡ true → (if b then x else y) ≡ false
either true p q x y f g h = f refl h
either false p q x y f g h = g h

not_empty : (xs ys : List ℕ) (s : ℕ) → is_empty (xs ++ s ∷ ys) ≡ false
not_empty [] ys s = refl
not_empty (x ∷ xs) ys s = refl

no_token : false ≡ true → {A : Type 0} → A
no_token h = absurd (true_not_false h refl)

module _ (s : ℕ) (sep : Separates s) (ys : List ℕ) where
  -- one of some bytes doesn't pass
  stopped : (p : ℕ → Bool) → p s ≡ false → (xs : List ℕ) → list_all p (xs ++ s ∷ ys) ≡ false
  stopped p h [] = ap (λ b. b && list_all p ys) h
  stopped p h (x ∷ xs) = and_false (p x) (list_all p (xs ++ s ∷ ys)) (stopped p h xs)

  include_stops : (text : List ℕ) → is_in_line s ≡ false → (xs : List ℕ) → text_then text (list_all is_in_line) xs ≡ true → text_then text (list_all is_in_line) (xs ++ s ∷ ys) ≡ false
  include_stops [] l xs h = stopped is_in_line l xs
  include_stops (c ∷ text) l [] h = no_token h
  include_stops (c ∷ text) l (x ∷ xs) h =
      and_false (x == c) (text_then text (list_all is_in_line) (xs ++ s ∷ ys))
      (include_stops text l xs (and_right (x == c) (text_then text (list_all is_in_line) xs) h))

  mutual
    point_stops : (xs : List ℕ) → is_after_point xs ≡ true → is_after_point (xs ++ s ∷ ys) ≡ false
    point_stops [] h = no_token h
    point_stops (x ∷ xs) h = and_false (is_letter x) (is_in_name (xs ++ s ∷ ys)) (name_stops xs (and_right (is_letter x) (is_in_name xs) h))

    name_stops : (xs : List ℕ) → is_in_name xs ≡ true → is_in_name (xs ++ s ∷ ys) ≡ false
    name_stops [] h = cond_false (s == 46) (is_after_point ys) (is_word_byte s && is_in_name ys) sep.point ∙ ap (λ b. b && is_in_name ys) sep.word_byte
    name_stops (x ∷ xs) h =
        either (x == 46) (is_after_point xs) (is_word_byte x && is_in_name xs) (is_after_point (xs ++ s ∷ ys)) (is_word_byte x && is_in_name (xs ++ s ∷ ys))
        (λ _ g. point_stops xs g)
        (λ g. and_false (is_word_byte x) (is_in_name (xs ++ s ∷ ys)) (name_stops xs (and_right (is_word_byte x) (is_in_name xs) g))) h

  some_digits : (b : Bool) (c : ℕ) (xs : List ℕ) → are_some is_digit (if b then xs ++ s ∷ ys else c ∷ (xs ++ s ∷ ys)) ≡ false
  some_digits true c xs = and_false (not (is_empty (xs ++ s ∷ ys))) (list_all is_digit (xs ++ s ∷ ys)) (stopped is_digit sep.digit xs)
  some_digits false c xs = stopped is_digit sep.digit (c ∷ xs)

  power_stops : (xs : List ℕ) → is_power xs ≡ true → is_power (xs ++ s ∷ ys) ≡ false
  power_stops [] h = no_token h
  power_stops (x ∷ xs) h = some_digits (x == 45) x xs

  tail_stops : (x : ℕ) (xs : List ℕ) → is_number_tail (x ∷ xs) ≡ true → is_number_tail (x ∷ (xs ++ s ∷ ys)) ≡ false
  tail_stops x xs h =
      either (x == 117) (is_empty xs) (x == 101 && is_power xs) (is_empty (xs ++ s ∷ ys)) (x == 101 && is_power (xs ++ s ∷ ys))
      (λ _ g. not_empty xs ys s)
      (λ g. and_false (x == 101) (is_power (xs ++ s ∷ ys)) (power_stops xs (and_right (x == 101) (is_power xs) g))) h

  number_stops : (xs : List ℕ) → is_number_rest xs ≡ true → is_number_rest (xs ++ s ∷ ys) ≡ false
  number_stops [] h =
      cond_false (is_digit s) (is_number_rest ys) (is_number_tail (s ∷ ys)) sep.digit
      ∙ cond_false (s == 117) (is_empty ys) (s == 101 && is_power ys) sep.u ∙ ap (λ b. b && is_power ys) sep.e
  number_stops (x ∷ xs) h =
      either (is_digit x) (is_number_rest xs) (is_number_tail (x ∷ xs)) (is_number_rest (xs ++ s ∷ ys)) (is_number_tail (x ∷ (xs ++ s ∷ ys)))
      (λ _ g. number_stops xs g) (λ g. tail_stops x xs g) h

  mutual
    string_stops : (xs : List ℕ) → is_string_rest xs ≡ true → is_string_rest (xs ++ s ∷ ys) ≡ false
    string_stops [] h = no_token h
    string_stops (x ∷ xs) h =
        either (x == 34) (is_empty xs) (if x == 92 then is_escape_then xs else is_plain x && is_string_rest xs)
        (is_empty (xs ++ s ∷ ys)) (if x == 92 then is_escape_then (xs ++ s ∷ ys) else is_plain x && is_string_rest (xs ++ s ∷ ys))
        (λ _ g. not_empty xs ys s)
        (either (x == 92) (is_escape_then xs) (is_plain x && is_string_rest xs) (is_escape_then (xs ++ s ∷ ys)) (is_plain x && is_string_rest (xs ++ s ∷ ys))
        (λ _ g. escape_stops xs g)
        (λ g. and_false (is_plain x) (is_string_rest (xs ++ s ∷ ys)) (string_stops xs (and_right (is_plain x) (is_string_rest xs) g)))) h

    escape_stops : (xs : List ℕ) → is_escape_then xs ≡ true → is_escape_then (xs ++ s ∷ ys) ≡ false
    escape_stops [] h = no_token h
    escape_stops (c ∷ []) h = no_token h
    escape_stops (c ∷ d ∷ []) h = no_token h
    escape_stops (c ∷ d ∷ e ∷ xs) h = and_false (is_escape c d e) (is_string_rest (xs ++ s ∷ ys)) (string_stops xs (and_right (is_escape c d e) (is_string_rest xs) h))

  two_bytes : (c : ℕ) (zs : List ℕ) → is_mark (c ∷ s ∷ zs) ≡ false
  two_bytes c [] = sep.second c
  two_bytes c (z ∷ zs) = refl

  mark_stops : (xs : List ℕ) → is_mark xs ≡ true → is_mark (xs ++ s ∷ ys) ≡ false
  mark_stops [] h = no_token h
  mark_stops (c ∷ []) h = two_bytes c ys
  mark_stops (c ∷ d ∷ []) h = refl
  mark_stops (c ∷ d ∷ e ∷ xs) h = no_token h

  -- an include goes on to the end of its line
  pub token_stops : (c : ℕ) (xs : List ℕ) → ((c == 35) ≡ true → is_in_line s ≡ false) → is_token (c ∷ xs) ≡ true → is_token (c ∷ (xs ++ s ∷ ys)) ≡ false
  token_stops c xs l h =
      either (is_letter c) (list_all is_word_byte xs) (if is_digit c then is_number_rest xs else (if c == 35 then is_include_rest xs else (if c == 46 then is_after_point xs else (if c == 34 then is_string_rest xs else is_mark (c ∷ xs)))))
      (list_all is_word_byte (xs ++ s ∷ ys)) (if is_digit c then is_number_rest (xs ++ s ∷ ys) else (if c == 35 then is_include_rest (xs ++ s ∷ ys) else (if c == 46 then is_after_point (xs ++ s ∷ ys) else (if c == 34 then is_string_rest (xs ++ s ∷ ys) else is_mark (c ∷ (xs ++ s ∷ ys))))))
      (λ _ g. stopped is_word_byte sep.word_byte xs)
      (either (is_digit c) _ _ _ _ (λ _ g. number_stops xs g)
      (either (c == 35) _ _ _ _ (λ e g. include_stops (codes "include") (l e) xs g)
      (either (c == 46) _ _ _ _ (λ _ g. point_stops xs g)
      (either (c == 34) _ _ _ _ (λ _ g. string_stops xs g) (λ g. mark_stops (c ∷ xs) g))))) h
