-- Comparing names.
use Rattle.std.proofs.Common.{◌≡◌, ℕ, List, Bool, true, false, refl, sym, ◌∙◌, true≢false}
use Rattle.std.specs.Str.{bytes_eq}
use Rattle.std.proofs.lemmas.Slice.Eq.{bytes_eq-Decides}

pub same_names : (a b : List ℕ) → bytes_eq a b ≡ true → a ≡ b
same_names a b e = (bytes_eq-Decides a b).0 e

pub bytes_sym : (a b : List ℕ) → bytes_eq a b ≡ bytes_eq b a
bytes_sym a b = by_tests (bytes_eq a b) (bytes_eq b a) refl refl
  where
    by_tests : (r s : Bool) → bytes_eq a b ≡ r → bytes_eq b a ≡ s → r ≡ s
    by_tests true true e f = refl
    by_tests false false e f = refl
    by_tests true false e f = absurd (true≢false (sym ((bytes_eq-Decides b a).1 (sym (same_names a b e))) ∙ f))
    by_tests false true e f = absurd (true≢false (sym ((bytes_eq-Decides a b).1 (sym (same_names b a f))) ∙ e))
