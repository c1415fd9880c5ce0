-- Where a block and its blocks use a local, by the block's first statement.
use Rattle.std.proofs.Common.{◌≡◌, ℕ, List, [], ◌∷◌, ◌++◌, refl, ap, ◌∙◌}
use Rattle.std.specs.Prelude.{Bool, true, false, ◌==◌, if◌then◌else◌}
use Rattle.std.specs.List.{flat_map}
use Rattle.std.proofs.lemmas.Grind.{flat_map-append}
use Rattle.c_tree.specs.declared.body.CAtom.{CAtom}
use Rattle.c_tree.specs.Raw.{At, RawSimple, RawBlock, simple, leave, choice, loop}
use Rattle.c_tree.specs.rules.Bodies.{Item, of_simple, items_in, atoms_of, atoms_of_simple, local_of, assigned, of_statement, tokens_of}
use Rattle.c_tree.specs.rules.Settings.{reads, reads_in, sets, sets_in}

more_tokens : (b : Bool) (t : ℕ) (xs ys zs : List ℕ) → zs ≡ xs ++ ys → (if b then t ∷ zs else zs) ≡ (if b then t ∷ xs else xs) ++ ys
more_tokens true t xs ys zs e = ap (λ l. t ∷ l) e
more_tokens false t xs ys zs e = e

pub tokens-append : (i : ℕ) (xs ys : List (At ℕ)) → tokens_of i (xs ++ ys) ≡ tokens_of i xs ++ tokens_of i ys
tokens-append i [] ys = refl
tokens-append i (x ∷ xs) ys = more_tokens (x.value == i) x.at (tokens_of i xs) (tokens_of i ys) (tokens_of i (xs ++ ys)) (tokens-append i xs ys)

-- where items use a local, each in a part of it
uses-first : (i : ℕ) (part : Item → List (At ℕ)) (item : Item) (items : List Item)
    → tokens_of i (flat_map part (item ∷ items)) ≡ tokens_of i (part item) ++ tokens_of i (flat_map part items)
uses-first i part item items = tokens-append i (part item) (flat_map part items)

uses-two : (i : ℕ) (part : Item → List (At ℕ)) (x y : List Item)
    → tokens_of i (flat_map part (x ++ y)) ≡ tokens_of i (flat_map part x) ++ tokens_of i (flat_map part y)
uses-two i part x y = ap (tokens_of i) (flat_map-append part x y) ∙ tokens-append i (flat_map part x) (flat_map part y)

uses-three : (i : ℕ) (part : Item → List (At ℕ)) (x y z : List Item)
    → tokens_of i (flat_map part (x ++ y ++ z))
    ≡ (tokens_of i (flat_map part x) ++ tokens_of i (flat_map part y)) ++ tokens_of i (flat_map part z)
uses-three i part x y z = uses-two i part (x ++ y) z ∙ ap (λ l. l ++ tokens_of i (flat_map part z)) (uses-two i part x y)

pub sets-simple : (i : ℕ) (s : RawSimple) (rest : RawBlock) → sets_in i (simple s rest) ≡ sets i s ++ sets_in i rest
sets-simple i s rest = uses-first i (of_statement assigned) (of_simple s) (items_in rest)

pub sets-choice : (i : ℕ) (a : At CAtom) (x y rest : RawBlock)
    → sets_in i (choice a x y rest) ≡ (sets_in i x ++ sets_in i y) ++ sets_in i rest
sets-choice i a x y rest = uses-three i (of_statement assigned) (items_in x) (items_in y) (items_in rest)

pub sets-loop : (i : ℕ) (x rest : RawBlock) → sets_in i (loop x rest) ≡ sets_in i x ++ sets_in i rest
sets-loop i x rest = uses-two i (of_statement assigned) (items_in x) (items_in rest)

pub reads-append : (i : ℕ) (x y : List (At CAtom)) → reads i (x ++ y) ≡ reads i x ++ reads i y
reads-append i x y = ap (tokens_of i) (flat_map-append local_of x y) ∙ tokens-append i (flat_map local_of x) (flat_map local_of y)

pub reads-simple : (i : ℕ) (s : RawSimple) (rest : RawBlock) → reads_in i (simple s rest) ≡ reads i (atoms_of_simple s) ++ reads_in i rest
reads-simple i s rest = reads-append i (atoms_of_simple s) (flat_map atoms_of (items_in rest))

pub reads-leave : (i : ℕ) (at : ℕ) (a : At CAtom) (rest : RawBlock) → reads_in i (leave at a rest) ≡ reads i (a ∷ []) ++ reads_in i rest
reads-leave i at a rest = reads-append i (a ∷ []) (flat_map atoms_of (items_in rest))

pub reads-choice : (i : ℕ) (a : At CAtom) (x y rest : RawBlock)
    → reads_in i (choice a x y rest) ≡ reads i (a ∷ []) ++ ((reads_in i x ++ reads_in i y) ++ reads_in i rest)
reads-choice i a x y rest =
    reads-append i (a ∷ []) (flat_map atoms_of (items_in x ++ items_in y ++ items_in rest))
    ∙ ap (λ l. reads i (a ∷ []) ++ l)
    (ap (reads i) (flat_map-append atoms_of (items_in x ++ items_in y) (items_in rest))
    ∙ reads-append i (flat_map atoms_of (items_in x ++ items_in y)) (flat_map atoms_of (items_in rest))
    ∙ ap (λ l. l ++ reads_in i rest)
    (ap (reads i) (flat_map-append atoms_of (items_in x) (items_in y)) ∙ reads-append i (flat_map atoms_of (items_in x)) (flat_map atoms_of (items_in y))))

pub reads-loop : (i : ℕ) (x rest : RawBlock) → reads_in i (loop x rest) ≡ reads_in i x ++ reads_in i rest
reads-loop i x rest =
    ap (reads i) (flat_map-append atoms_of (items_in x) (items_in rest))
    ∙ reads-append i (flat_map atoms_of (items_in x)) (flat_map atoms_of (items_in rest))
