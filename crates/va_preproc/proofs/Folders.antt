-- The folders of files.
use Rattle.std.proofs.Common.{◌≡◌, ◌<◌, ◌≤◌, ◌+◌, ◌-◌, arith, ℕ, [], ◌∷◌, ◌++◌, length, take, get_or, refl, sym, ap, ◌∙◌, Bool, true, false}
use Rattle.std.proofs.lemmas.List.{take_more}
use Rattle.std.proofs.lemmas.Bool.{eqb-true}
use Rattle.std.specs.Prelude.{◌==◌, ◌||◌, if◌then◌else◌}
use Rattle.std.specs.List.{list_any}
use Rattle.va_preproc.specs.Lexemes.{Bytes}
use Rattle.va_preproc.specs.Expansion.{folder}

abbrev is_slash : ℕ → Bool
is_slash byte = byte == 47

first_other : (b c : Bool) → b ≡ false → (b || c) ≡ c
first_other true c e = cc
first_other false c e = refl

first_same : (b c : Bool) → b ≡ true → (b || c) ≡ true
first_same true c e = refl
first_same false c e = cc

last_true : (b : Bool) → (b || true) ≡ true
last_true true = refl
last_true false = refl

any_other : (ys : Bytes) (c : ℕ) → (c == 47) ≡ false → list_any is_slash (ys ++ c ∷ []) ≡ list_any is_slash ys
any_other [] c e = first_other (c == 47) false e
any_other (y ∷ ys) c e = ap (λ b. y == 47 || b) (any_other ys c e)

any_slash : (ys : Bytes) (c : ℕ) → (c == 47) ≡ true → list_any is_slash (ys ++ c ∷ []) ≡ true
any_slash [] c e = first_same (c == 47) false e
any_slash (y ∷ ys) c e = ap (λ b. y == 47 || b) (any_slash ys c e) ∙ last_true (y == 47)

chosen : {X : Type 0} (b : Bool) (x y : X) → b ≡ true → (if b then x else y) ≡ x
chosen true x y e = refl
chosen false x y e = cc

unchosen : {X : Type 0} (b : Bool) (x y : X) → b ≡ false → (if b then x else y) ≡ y
unchosen true x y e = cc
unchosen false x y e = refl

folder_other : (ys : Bytes) (c : ℕ) → (c == 47) ≡ false → folder (ys ++ c ∷ []) ≡ folder ys
folder_other [] c e = unchosen (list_any is_slash (c ∷ [])) (c ∷ []) [] (any_other [] c e)
folder_other (y ∷ ys) c e = λ j. if any_other (y ∷ ys) c e j then y ∷ folder_other ys c e j else []

folder_slash : (ys : Bytes) (c : ℕ) → (c == 47) ≡ true → folder (ys ++ c ∷ []) ≡ ys ++ c ∷ []
folder_slash [] c e = chosen (list_any is_slash (c ∷ [])) (c ∷ folder []) [] (any_slash [] c e)
folder_slash (y ∷ ys) c e =
    chosen (list_any is_slash (y ∷ ys ++ c ∷ [])) (y ∷ folder (ys ++ c ∷ [])) [] (any_slash (y ∷ ys) c e)
    ∙ ap (λ l. y ∷ l) (folder_slash ys c e)

last_of : (name : Bytes) (len : ℕ) → 0 < len → len ≤ length name → take len name ≡ take (len - 1) name ++ get_or name (len - 1) 0 ∷ []
last_of name len h k = ap (λ n. take n name) one ∙ take_more name (len - 1) 0 (omega arith)
  where
    one : len ≡ len - 1 + 1
    one = omega arith

other_byte : (c : ℕ) → (c ≡ 47 → ⊥) → (c == 47) ≡ false
other_byte c h = by_test (c == 47) refl
  where
    by_test : (b : Bool) → (c == 47) ≡ b → b ≡ false
    by_test true e = absurd (h (eqb-true c 47 e))
    by_test false e = refl

-- a byte that is no `/` is left out
pub folder_less : (name : Bytes) (len : ℕ) → 0 < len → len ≤ length name → (get_or name (len - 1) 0 ≡ 47 → ⊥)
    → folder (take len name) ≡ folder (take (len - 1) name)
folder_less name len h k e =
    ap folder (last_of name len h k) ∙ folder_other (take (len - 1) name) (get_or name (len - 1) 0) (other_byte _ e)

-- the last `/` ends the folder
pub folder_ends : (name : Bytes) (len : ℕ) → 0 < len → len ≤ length name → get_or name (len - 1) 0 ≡ 47 → folder (take len name) ≡ take len name
folder_ends name len h k e =
    ap folder (last_of name len h k)
    ∙ folder_slash (take (len - 1) name) (get_or name (len - 1) 0) (ap (λ c. c == 47) e)
    ∙ sym (last_of name len h k)
