-- Words as texts spell them, and the rows of the table of built-in functions.
use Rattle.std.specs.Prelude.{◌≡◌, ◌-◌, ℕ, zero, suc, List, map, slice_get}
use Rattle.std.proofs.Common.{refl, ap, ◌∙◌, arith}
use Rattle.std.proofs.lemmas.Option.{slice_get-map}
use denote.Bor.{Bor}
use Rattle.va_sem.specs.declared.builtin.Builtin.{Builtin}
use Rattle.va_sem.specs.Lookup.{Bytes}
use Rattle.va_sem.specs.Builtins.{builtins, builtin_at}

abbrev pub spelled : List (Bor (List ℕ)) → List (List ℕ)
spelled = map (λ (word : Bor (List ℕ)). word.now)

-- the functions of the rows, in order
abbrev pub functions : List Builtin
functions = map (λ (entry : Bytes × Builtin). entry.1) builtins

pub row_holds : (row : ℕ) → (row ≡ 0 → ⊥) → slice_get functions (row - 1) ≡ builtin_at row
row_holds zero some = absurd (some refl)
row_holds (suc place) some =
    let e : suc place - 1 ≡ place = omega arith in
    ap (slice_get functions) e ∙ slice_get-map (λ (entry : Bytes × Builtin). entry.1) builtins place
