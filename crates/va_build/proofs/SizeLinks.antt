-- The links of a tree, by its row and its second tree.
use Rattle.std.specs.Prelude.{◌≡◌, ℕ, suc, ◌+◌, List, [], ◌∷◌, ◌++◌, Some, refl, map, reverse, drop, get_or, slice_get}
use Rattle.std.proofs.Common.{ap, sym, ◌∙◌, arith}
use Rattle.std.proofs.lemmas.List.{reverse-append}
use Rattle.std.proofs.lemmas.Option.{slice_get_within, get_or_from_slice_get}
use Rattle.std.proofs.Math.Seq.{drop-cons}
use Rattle.predict.specs.declared.symbol.Symbol.{Symbol}
use Rattle.predict.specs.declared.symbol.Symbol.TheVariants.{Kind, Left}
use Rattle.predict.specs.declared.tree.ParseNode.{ParseNode}
use Rattle.predict.specs.Tree.{Tree, node}
use Rattle.va_build.specs.Reading.{row_symbols, parts_from, first_tree, later_trees, trees_behind, trees_of}
use Rattle.va_build.specs.SizeRows.{links, links_of}
use Rattle.va_build.specs.SizeLinks.{no_tail, tail_of, tail_here, link_here, later_tails, tails_behind}
use Rattle.va_build.specs.declared.size_links.Tail.{Tail}

tail_shaped : (row : ℕ) (symbols : List Symbol) (ts : List Tree) → tail_of (node row (parts_from symbols ts)) ≡ tail_here symbols (tail_of (first_tree (later_trees ts)))
tail_shaped row [] ts = refl
tail_shaped row (Left a ∷ []) ts = refl
tail_shaped row (Left a ∷ Left b ∷ []) ts = refl
tail_shaped row (Left a ∷ Left b ∷ Kind k ∷ more) ts = refl
tail_shaped row (Left a ∷ Left b ∷ Left c ∷ more) ts = refl
tail_shaped row (Left a ∷ Kind k ∷ more) ts = refl
tail_shaped row (Kind k ∷ []) ts = refl
tail_shaped row (Kind k ∷ Kind j ∷ more) ts = refl
tail_shaped row (Kind k ∷ Left a ∷ []) ts = refl
tail_shaped row (Kind k ∷ Left a ∷ Left b ∷ []) ts = refl
tail_shaped row (Kind k ∷ Left a ∷ Left b ∷ Kind j ∷ more) ts = refl
tail_shaped row (Kind k ∷ Left a ∷ Left b ∷ Left c ∷ more) ts = refl
tail_shaped row (Kind k ∷ Left a ∷ Kind j ∷ []) ts = refl
tail_shaped row (Kind k ∷ Left a ∷ Kind j ∷ Kind i ∷ more) ts = refl
tail_shaped row (Kind k ∷ Left a ∷ Kind j ∷ Left b ∷ []) ts = refl
tail_shaped row (Kind k ∷ Left a ∷ Kind j ∷ Left b ∷ Kind i ∷ more) ts = refl
tail_shaped row (Kind k ∷ Left a ∷ Kind j ∷ Left b ∷ Left c ∷ more) ts = refl

link_shaped : (row : ℕ) (symbols : List Symbol) (ts : List Tree) → links (node row (parts_from symbols ts)) ≡ link_here row symbols (tail_of (first_tree (later_trees ts)))
link_shaped row [] ts = refl
link_shaped row (Left a ∷ []) ts = refl
link_shaped row (Left a ∷ Left b ∷ []) ts = refl
link_shaped row (Left a ∷ Left b ∷ Kind k ∷ more) ts = refl
link_shaped row (Left a ∷ Left b ∷ Left c ∷ more) ts = refl
link_shaped row (Left a ∷ Kind k ∷ more) ts = refl
link_shaped row (Kind k ∷ []) ts = refl
link_shaped row (Kind k ∷ Kind j ∷ more) ts = refl
link_shaped row (Kind k ∷ Left a ∷ []) ts = refl
link_shaped row (Kind k ∷ Left a ∷ Left b ∷ []) ts = refl
link_shaped row (Kind k ∷ Left a ∷ Left b ∷ Kind j ∷ more) ts = refl
link_shaped row (Kind k ∷ Left a ∷ Left b ∷ Left c ∷ more) ts = refl
link_shaped row (Kind k ∷ Left a ∷ Kind j ∷ []) ts = refl
link_shaped row (Kind k ∷ Left a ∷ Kind j ∷ Kind i ∷ more) ts = refl
link_shaped row (Kind k ∷ Left a ∷ Kind j ∷ Left b ∷ []) ts = refl
link_shaped row (Kind k ∷ Left a ∷ Kind j ∷ Left b ∷ Kind i ∷ more) ts = refl
link_shaped row (Kind k ∷ Left a ∷ Kind j ∷ Left b ∷ Left c ∷ more) ts = refl

second_listed : (ts : List Tree) → get_or (map tail_of ts) 1 no_tail ≡ tail_of (first_tree (later_trees ts))
second_listed [] = refl
second_listed (t ∷ []) = refl
second_listed (t ∷ u ∷ ts) = refl

later_listed : (ts : List Tree) → later_tails (map tail_of ts) ≡ map tail_of (later_trees ts)
later_listed [] = refl
later_listed (t ∷ ts) = refl

behind_listed : (symbols : List Symbol) (ts : List Tree) → tails_behind symbols (map tail_of ts) ≡ map tail_of (trees_behind symbols ts)
behind_listed [] ts = refl
behind_listed (Kind k ∷ symbols) ts = behind_listed symbols ts
behind_listed (Left l ∷ symbols) ts = ap (tails_behind symbols) (later_listed ts) ∙ behind_listed symbols (later_trees ts)

-- a tree in place of those below it
pub joined_tails : (n : ParseNode) (nodes : List ParseNode) (tails : List Tail) → tails ≡ map tail_of (trees_of nodes) → tail_here (row_symbols n.row) (get_or tails 1 no_tail) ∷ tails_behind (row_symbols n.row) tails ≡ map tail_of (trees_of (n ∷ nodes))
joined_tails n nodes tails is =
    let ts : List Tree = trees_of nodes in
    let symbols : List Symbol = row_symbols n.row in
    (λ j. tail_here symbols (get_or (is j) 1 no_tail) ∷ tails_behind symbols (is j))
    ∙ (λ j. tail_here symbols (second_listed ts j) ∷ behind_listed symbols ts j)
    ∙ ap (λ (t : Tail). t ∷ map tail_of (trees_behind symbols ts)) (sym (tail_shaped n.row symbols ts))

pub joined_links : (n : ParseNode) (nodes : List ParseNode) (tails : List Tail) (known : List ℕ) → tails ≡ map tail_of (trees_of nodes) → known ≡ links_of nodes → link_here n.row (row_symbols n.row) (get_or tails 1 no_tail) ∷ known ≡ links_of (n ∷ nodes)
joined_links n nodes tails known is same =
    let ts : List Tree = trees_of nodes in
    let symbols : List Symbol = row_symbols n.row in
    (λ j. link_here n.row symbols (get_or (is j) 1 no_tail) ∷ same j)
    ∙ ap (λ (t : Tail). link_here n.row symbols t ∷ links_of nodes) (second_listed ts)
    ∙ ap (λ (i : ℕ). i ∷ links_of nodes) (sym (link_shaped n.row symbols ts))

-- the elements from one on
pub from_one : {X : Type 0} (xs : List X) (i j : ℕ) (x : X) → slice_get xs j ≡ Some x → j + 1 ≡ i → drop j xs ≡ x ∷ drop i xs
from_one xs i j x h e =
    let f : suc j ≡ i = omega arith in
    drop-cons xs j x (slice_get_within xs j x h) ∙ ap (λ y. y ∷ drop (suc j) xs) (get_or_from_slice_get xs j x x h) ∙ ap (λ n. x ∷ drop n xs) f

-- the last element of a stack comes first
pub last_first : {X : Type 0} (items rest : List X) (x : X) → items ≡ rest ++ x ∷ [] → reverse items ≡ x ∷ reverse rest
last_first items rest x e = ap reverse e ∙ reverse-append rest (x ∷ [])
