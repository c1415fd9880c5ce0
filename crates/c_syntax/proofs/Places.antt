-- Places in lists, counted from some place on.
use Rattle.std.proofs.Common.{◌≡◌, ◌<◌, ◌≤◌, ◌+◌, ℕ, zero, suc, List, [], ◌∷◌, length, drop, get_or, refl, ap, sym, ◌∙◌, arith, Option, Some, None, Bor, map}
use Rattle.std.specs.Prelude.{true, false, nat_eq, cond}
use Rattle.std.proofs.lemmas.Bool.{eqb-true, eq-eqb}
use Rattle.std.proofs.lemmas.List.{drop_all}
use Rattle.std.proofs.Math.Seq.{drop-cons}
use Rattle.va_base.proofs.Tests.{not_true}
use Rattle.std.specs.Str.{bytes_eq}
use Rattle.c_syntax.specs.grammar.Choices.{further, kind_place}
use Rattle.c_syntax.specs.grammar.Names.{place_of, one_further}

-- a place, counted from so many elements before
abbrev pub placed : ℕ → Option ℕ → Option ℕ
placed at None = None
placed at (Some i) = Some (at + i)

placed_further : (at : ℕ) (r : Option ℕ) → placed at (further r) ≡ placed (at + 1) r
placed_further at None = refl
placed_further at (Some i) = ap (λ k. Some k) (omega arith)

pub placed-none : (r : Option ℕ) → r ≡ placed 0 r
placed-none None = refl
placed-none (Some i) = ap (λ k. Some k) (omega arith)

-- the kind is not there, or it is
pub kind-later : (kinds : List ℕ) (at next : ℕ) → at < length kinds → (get_or kinds at 0 ≡ next → ⊥)
    → placed at (kind_place (drop at kinds) next) ≡ placed (at + 1) (kind_place (drop (at + 1) kinds) next)
kind-later kinds at next lt other =
    let no : nat_eq next (get_or kinds at 0) ≡ false = not_true _ (λ e. other (sym (eqb-true next (get_or kinds at 0) e))) in
    ap (λ l. placed at (kind_place l next)) (drop-cons kinds at 0 lt)
    ∙ ap (λ b. placed at (cond b (Some 0) (further (kind_place (drop (suc at) kinds) next)))) no
    ∙ placed_further at (kind_place (drop (suc at) kinds) next)
    ∙ ap (λ k. placed (at + 1) (kind_place (drop k kinds) next)) (let one : suc at ≡ at + 1 = omega arith in one)

pub kind-here : (kinds : List ℕ) (at next : ℕ) → at < length kinds → get_or kinds at 0 ≡ next → placed at (kind_place (drop at kinds) next) ≡ Some at
kind-here kinds at next lt same =
    ap (λ l. placed at (kind_place l next)) (drop-cons kinds at 0 lt)
    ∙ ap (λ b. placed at (cond b (Some 0) (further (kind_place (drop (suc at) kinds) next)))) (eq-eqb next (get_or kinds at 0) (sym same))
    ∙ ap (λ k. Some k) (let none : at + 0 ≡ at = omega arith in none)

pub kind-nowhere : (kinds : List ℕ) (at next : ℕ) → length kinds ≤ at → placed at (kind_place (drop at kinds) next) ≡ None
kind-nowhere kinds at next le = ap (λ l. placed at (kind_place l next)) (drop_all at kinds le)

-- the names of a list of texts
abbrev pub names_in : List (Bor (List ℕ)) → List (List ℕ)
names_in names = map (λ name. name.now) names

now_at : (names : List (Bor (List ℕ))) (at : ℕ) (d : Bor (List ℕ)) → at < length names → get_or (names_in names) at [] ≡ (get_or names at d).now
now_at [] at d lt = absurd (omega (arith, lt))
now_at (name ∷ names) zero d lt = refl
now_at (name ∷ names) (suc at) d lt = now_at names at d (omega (arith, lt))

names_length : (names : List (Bor (List ℕ))) → length (names_in names) ≡ length names
names_length [] = refl
names_length (name ∷ names) = ap suc (names_length names)

cut : (names : List (Bor (List ℕ))) (at : ℕ) → at < length names → drop at (names_in names) ≡ get_or (names_in names) at [] ∷ drop (suc at) (names_in names)
cut names at lt = drop-cons (names_in names) at [] (omega (arith, lt, names_length names))

name_further : (at : ℕ) (r : Option ℕ) → placed at (one_further r) ≡ placed (at + 1) r
name_further at None = refl
name_further at (Some i) = ap (λ k. Some k) (omega arith)

-- the name is not there, or it is
pub name-later : (names : List (Bor (List ℕ))) (at : ℕ) (word found : List ℕ) (d : Bor (List ℕ)) → at < length names → found ≡ (get_or names at d).now → bytes_eq found word ≡ false
    → placed at (place_of (drop at (names_in names)) word) ≡ placed (at + 1) (place_of (drop (at + 1) (names_in names)) word)
name-later names at word found d lt is e =
    let other : bytes_eq (get_or (names_in names) at []) word ≡ false = ap (λ n. bytes_eq n word) (now_at names at d lt ∙ sym is) ∙ e in
    ap (λ l. placed at (place_of l word)) (cut names at lt)
    ∙ ap (λ b. placed at (cond b (Some 0) (one_further (place_of (drop (suc at) (names_in names)) word)))) other
    ∙ name_further at (place_of (drop (suc at) (names_in names)) word)
    ∙ ap (λ k. placed (at + 1) (place_of (drop k (names_in names)) word)) (let one : suc at ≡ at + 1 = omega arith in one)

pub name-here : (names : List (Bor (List ℕ))) (at : ℕ) (word found : List ℕ) (d : Bor (List ℕ)) → at < length names → found ≡ (get_or names at d).now → bytes_eq found word ≡ true
    → placed at (place_of (drop at (names_in names)) word) ≡ Some at
name-here names at word found d lt is e =
    let same : bytes_eq (get_or (names_in names) at []) word ≡ true = ap (λ n. bytes_eq n word) (now_at names at d lt ∙ sym is) ∙ e in
    ap (λ l. placed at (place_of l word)) (cut names at lt)
    ∙ ap (λ b. placed at (cond b (Some 0) (one_further (place_of (drop (suc at) (names_in names)) word)))) same
    ∙ ap (λ k. Some k) (let none : at + 0 ≡ at = omega arith in none)

pub name-nowhere : (names : List (Bor (List ℕ))) (at : ℕ) (word : List ℕ) → length names ≤ at → placed at (place_of (drop at (names_in names)) word) ≡ None
name-nowhere names at word le = ap (λ l. placed at (place_of l word)) (drop_all at (names_in names) (omega (arith, le, names_length names)))
