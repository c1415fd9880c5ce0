-- Lemmas on lists of symbols.
use Rattle.std.proofs.Common.{◌≡◌, ℕ, ◌+◌, ◌≤◌, suc, List, [], ◌∷◌, ◌++◌, reverse, drop, Some, ap, ◌∙◌, arith}
use Rattle.std.specs.List.{slice_get}
use Rattle.std.proofs.lemmas.Option.{slice_get_within, get_or_from_slice_get}
use Rattle.std.proofs.lemmas.List.{reverse-append}
use Rattle.std.proofs.Math.Seq.{drop-cons}
use Rattle.predict.specs.declared.symbol.Symbol.{Symbol}
use Rattle.predict.specs.declared.symbol.Symbol.TheVariants.{Kind, Left}
use Rattle.predict.specs.Rules.{nonterminal_count}

-- from the symbol that was read on
pub drop_read : (xs : List Symbol) (i j : ℕ) (x : Symbol) → slice_get xs j ≡ Some x → j + 1 ≡ i → drop j xs ≡ x ∷ drop i xs
drop_read xs i j x h e =
    let f : suc j ≡ i = omega arith in
    drop-cons xs j x (slice_get_within xs j x h) ∙ ap (λ y. y ∷ drop (suc j) xs) (get_or_from_slice_get xs j x x h) ∙ ap (λ n. x ∷ drop n xs) f

-- a symbol that is pushed comes first
pub reverse_pushed : (items items' front back : List Symbol) (x : Symbol) → items' ≡ items ++ x ∷ [] → reverse items ≡ front ++ back → reverse items' ≡ x ∷ (front ++ back)
reverse_pushed items items' front back x e h = ap reverse e ∙ reverse-append items (x ∷ []) ∙ ap (λ t. x ∷ t) h

-- a symbol more is counted
pub nonterminal_count-cons : (x : Symbol) (xs : List Symbol) → nonterminal_count xs + nonterminal_count (x ∷ []) ≡ nonterminal_count (x ∷ xs)
nonterminal_count-cons (Kind k) xs = omega arith
nonterminal_count-cons (Left left) xs = omega arith

pub nonterminal_count-one : (x : Symbol) → nonterminal_count (x ∷ []) ≤ 1
nonterminal_count-one (Kind k) = omega arith
nonterminal_count-one (Left left) = omega arith
