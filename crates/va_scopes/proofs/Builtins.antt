-- The names of built-in functions, by the rows of their table.
use Rattle.std.proofs.Common.{◌≡◌, ℕ, ◌+◌, false, List, refl, sym, ap, ◌∙◌, add-one}
use Rattle.std.specs.Prelude.{Option, Some, None, option_map, option_and_then}
use Rattle.std.specs.Option.{is_some}
use Rattle.va_sem.specs.Lookup.{place_of, words_of, entry_at}
use Rattle.va_sem.specs.Builtins.{builtins, builtin_row, builtin_at}
use Rattle.va_sem.specs.Scopes.{is_builtin}

by_place_none : (name : List ℕ) (place : Option ℕ) → place_of (words_of builtins) name ≡ place → None ≡ option_map (λ p. p + 1) place → is_builtin name ≡ false
by_place_none name None e n = ap (λ place. is_some (option_and_then (entry_at builtins) place)) e
by_place_none name (Some p) e n = cc n

pub without_row : (name : List ℕ) → None ≡ builtin_row name → false ≡ is_builtin name
without_row name n = sym (by_place_none name (place_of (words_of builtins) name) refl n)

by_place_some : (name : List ℕ) (row : ℕ) (place : Option ℕ) → place_of (words_of builtins) name ≡ place → Some row ≡ option_map (λ p. p + 1) place
    → is_some (builtin_at row) ≡ is_builtin name
by_place_some name row None e n = cc n
by_place_some name row (Some p) e n =
    let same : row ≡ p + 1 = cc n in
    ap (λ r. is_some (builtin_at r)) same ∙ ap (λ r. is_some (builtin_at r)) (add-one p)
    ∙ sym (ap (λ place. is_some (option_and_then (entry_at builtins) place)) e)

pub of_row : (name : List ℕ) (row : ℕ) → Some row ≡ builtin_row name → is_some (builtin_at row) ≡ is_builtin name
of_row name row n = by_place_some name row (place_of (words_of builtins) name) refl n
