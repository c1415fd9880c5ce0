-- Marks.
use Rattle.std.proofs.Common.{◌≡◌, ◌<◌, ◌≤◌, ℕ, zero, suc, List, [], ◌∷◌, length, take, refl, ap, sym, ◌∙◌, arith, Some, None}
use Rattle.std.specs.Prelude.{true, false}
use Rattle.va_base.specs.Longest.{longest}
use Rattle.va_base.proofs.Longest.{longest_is, longest-none}
use Rattle.va_base.proofs.Tests.{true_not_false}
use Rattle.c_tree.specs.tokens.Spelling.{is_single_mark, is_mark}
use Rattle.c_syntax.specs.Fronts.{begins_double_mark}

no_third : (c d : ℕ) (rest : List ℕ) (m : ℕ) → 2 < m → m ≤ length (c ∷ d ∷ rest) → is_mark (take m (c ∷ d ∷ rest)) ≡ false
no_third c d rest zero lt le = absurd (omega arith)
no_third c d rest (suc zero) lt le = absurd (omega arith)
no_third c d rest (suc (suc zero)) lt le = absurd (omega arith)
no_third c d [] (suc (suc (suc m))) lt le = absurd (omega arith)
no_third c d (e ∷ rest) (suc (suc (suc m))) lt le = refl

-- a mark of two bytes
pub mark-two : (text : List ℕ) → begins_double_mark text ≡ true → longest is_mark text ≡ Some 2
mark-two [] e = absurd (true_not_false e refl)
mark-two (c ∷ []) e = absurd (true_not_false e refl)
mark-two (c ∷ d ∷ rest) e = longest_is is_mark (c ∷ d ∷ rest) 2 (record { within = omega arith; passes = e; longer = no_third c d rest })

no_second : (c : ℕ) (rest : List ℕ) (m : ℕ) → begins_double_mark (c ∷ rest) ≡ false → 1 < m → m ≤ length (c ∷ rest)
    → is_mark (take m (c ∷ rest)) ≡ false
no_second c rest zero n lt le = absurd (omega arith)
no_second c rest (suc zero) n lt le = absurd (omega arith)
no_second c [] (suc (suc m)) n lt le = absurd (omega arith)
no_second c (d ∷ rest) (suc (suc zero)) n lt le = n
no_second c (d ∷ []) (suc (suc (suc m))) n lt le = absurd (omega arith)
no_second c (d ∷ e ∷ rest) (suc (suc (suc m))) n lt le = refl

mark_single : (c : ℕ) (rest : List ℕ) → begins_double_mark (c ∷ rest) ≡ false → is_single_mark c ≡ true → longest is_mark (c ∷ rest) ≡ Some 1
mark_single c rest n e =
    longest_is is_mark (c ∷ rest) 1 (record { within = omega arith; passes = e; longer = λ m lt le. no_second c rest m n lt le })

mark_none : (c : ℕ) (rest : List ℕ) → begins_double_mark (c ∷ rest) ≡ false → is_single_mark c ≡ false → longest is_mark (c ∷ rest) ≡ None
mark_none c rest n e =
    longest-none is_mark (c ∷ rest) (λ m. elim m as (λ k. k ≤ length (c ∷ rest) → is_mark (take k (c ∷ rest)) ≡ false) [
      | zero ↦ λ le. refl
      | suc k ↦ none_at k
    ])
  where
    none_at : (k : ℕ) → suc k ≤ length (c ∷ rest) → is_mark (take (suc k) (c ∷ rest)) ≡ false
    none_at zero le = e
    none_at (suc k) le = no_second c rest (suc (suc k)) n (omega arith) le

-- and a mark of one byte, or none
pub mark-one : (text : List ℕ) (c : ℕ) (rest : List ℕ) → text ≡ c ∷ rest → begins_double_mark text ≡ false → is_single_mark c ≡ true
    → longest is_mark text ≡ Some 1
mark-one text c rest e d s = ap (longest is_mark) e ∙ mark_single c rest (ap begins_double_mark (sym e) ∙ d) s

pub mark-nothing : (text : List ℕ) (c : ℕ) (rest : List ℕ) → text ≡ c ∷ rest → begins_double_mark text ≡ false → is_single_mark c ≡ false
    → longest is_mark text ≡ None
mark-nothing text c rest e d s = ap (longest is_mark) e ∙ mark_none c rest (ap begins_double_mark (sym e) ∙ d) s
