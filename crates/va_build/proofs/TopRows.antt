-- From what was read at the top of a text to the natures, disciplines and modules that it means.
use Rattle.std.specs.Prelude.{◌≡◌, ◌+◌, ℕ, List, [], ◌∷◌, ◌++◌}
use Rattle.std.proofs.Common.{ap, sym, ◌∙◌, arith}
use Rattle.predict.specs.declared.symbol.Symbol.TheVariants.{Left}
use Rattle.predict.specs.Tree.{Tree}
use Rattle.va_base.specs.declared.expanded.Expanded.{Expanded}
use Rattle.va_tree.specs.declared.source.AttributeGroup.{AttributeGroup}
use Rattle.va_build.specs.Reading.{row_symbols, Ahead, TakesRow, Reads, ReadsOn, first_tree, later_trees, trees}
use Rattle.va_build.specs.SourceItems.{attribute_groups}
use Rattle.va_build.specs.SourceOf.{body_of_sort, of_sort, all_of_sort}
use Rattle.va_build.specs.Width.{width}
use Rattle.va_build.proofs.TakenRows.{read, read_row, reads_on_row, appended}
use Rattle.va_build.proofs.TopItems.{none_found}

-- one of this sort was read
pub own_read : {X : Type 0} (sort : Expanded → List AttributeGroup → ℕ → Tree → List X) (e : Expanded) (before r1 after : Ahead) (row k a : ℕ) (attributes : List AttributeGroup) (old new : List X) (one : X) → TakesRow before r1 row → row ≡ k → row_symbols k ≡ Left a ∷ [] → Reads (sort e attributes) r1 after (one ∷ []) → new ≡ old ++ one ∷ [] → Reads (λ at t. old ++ body_of_sort sort e attributes at t) before after new
own_read {X} sort e before r1 after row k a attributes old new one t is symbols b p =
    let first : Tree = first_tree (trees r1) in
    let value : new ≡ old ++ sort e attributes before.at first = p ∙ ap (λ (l : List X). old ++ l) (b.value_is ∙ ap (λ (i : ℕ). sort e attributes i first) t.at_is) in
    let total : after.at ≡ r1.at + (width first + 0) = omega (arith, b.at_is) in
    read_row (λ at t. old ++ body_of_sort sort e attributes at t) before r1 after row (Left a ∷ []) new t (ap row_symbols is ∙ symbols) value b.trees_are total (omega (arith, b.fewer))

-- one of another sort was read
pub other_read : {X Y : Type 0} (sort : Expanded → List AttributeGroup → ℕ → Tree → List X) (other : Expanded → List AttributeGroup → ℕ → Tree → List Y) (e : Expanded) (before r1 after : Ahead) (row k a : ℕ) (attributes : List AttributeGroup) (old new : List Y) (one : X) → TakesRow before r1 row → row ≡ k → row_symbols k ≡ Left a ∷ [] → Reads (sort e attributes) r1 after (one ∷ []) → other e attributes r1.at (first_tree (trees r1)) ≡ [] → new ≡ old → Reads (λ at t. old ++ body_of_sort other e attributes at t) before after new
other_read {X} {Y} sort other e before r1 after row k a attributes old new one t is symbols b none p =
    let first : Tree = first_tree (trees r1) in
    let value : new ≡ old ++ other e attributes before.at first = none_found old new (other e attributes before.at first) p (sym (ap (λ (i : ℕ). other e attributes i first) t.at_is) ∙ none) in
    let total : after.at ≡ r1.at + (width first + 0) = omega (arith, b.at_is) in
    read_row (λ at t. old ++ body_of_sort other e attributes at t) before r1 after row (Left a ∷ []) new t (ap row_symbols is ∙ symbols) value b.trees_are total (omega (arith, b.fewer))

-- attributes and what they belong to, at the top of a text
pub top_read : {X : Type 0} (sort : Expanded → List AttributeGroup → ℕ → Tree → List X) (e : Expanded) (before r1 r2 after : Ahead) (row : ℕ) (groups : List AttributeGroup) (old new : List X) → TakesRow before r1 row → row ≡ 2 → Reads (attribute_groups e) r1 r2 groups → Reads (λ at t. old ++ body_of_sort sort e groups at t) r2 after new → Reads (λ at t. old ++ of_sort sort e at t) before after new
unfolding row_symbols
top_read {X} sort e before r1 r2 after row groups old new t is g b =
    let first : Tree = first_tree (trees r1) in
    let behind : r2.at ≡ before.at + width first = g.at_is ∙ ap (λ (k : ℕ). k + width first) t.at_is in
    let attributes : groups ≡ attribute_groups e before.at first = g.value_is ∙ ap (λ (k : ℕ). attribute_groups e k first) t.at_is in
    let value : new ≡ old ++ body_of_sort sort e (attribute_groups e before.at first) (before.at + width first) (first_tree (later_trees (trees r1))) = b.value_is ∙ (λ k. old ++ body_of_sort sort e (attributes k) (behind k) (first_tree (g.trees_are k))) in
    let total : after.at ≡ r1.at + (width first + (width (first_tree (later_trees (trees r1))) + 0)) = omega (arith, b.at_is, g.at_is, ap (λ (ts : List Tree). width (first_tree ts)) g.trees_are) in
    read (λ at t. old ++ of_sort sort e at t) before r1 after row 2 new t is value (b.trees_are ∙ ap later_trees g.trees_are) total (omega (arith, b.fewer, g.fewer))

-- one was read of all
pub all_on : {X : Type 0} (sort : Expanded → List AttributeGroup → ℕ → Tree → List X) (e : Expanded) (start now r1 r2 : Ahead) (row : ℕ) (old new : List X) → ReadsOn (λ at t. old ++ all_of_sort sort e at t) (all_of_sort sort e) start now → TakesRow now r1 row → row ≡ 0 → Reads (λ at t. old ++ of_sort sort e at t) r1 r2 new → ReadsOn (λ at t. new ++ all_of_sort sort e at t) (all_of_sort sort e) start r2
unfolding row_symbols
all_on {X} sort e start now r1 r2 row old new on t is b =
    let first : Tree = first_tree (trees r1) in
    let behind : r2.at ≡ now.at + width first = b.at_is ∙ ap (λ (k : ℕ). k + width first) t.at_is in
    let total : r2.at + width (first_tree (trees r2)) ≡ r1.at + (width first + (width (first_tree (later_trees (trees r1))) + 0)) = omega (arith, b.at_is, ap (λ (ts : List Tree). width (first_tree ts)) b.trees_are) in
    reads_on_row (λ at t. old ++ all_of_sort sort e at t) (λ at t. new ++ all_of_sort sort e at t) (all_of_sort sort e) start now r1 r2 row 0 on t is (appended old new (all_of_sort sort e r2.at (first_tree (trees r2))) (all_of_sort sort e (now.at + width first) (first_tree (later_trees (trees r1)))) (of_sort sort e r1.at first) (of_sort sort e now.at first) b.value_is (ap (λ (k : ℕ). of_sort sort e k first) t.at_is) (λ k. all_of_sort sort e (behind k) (first_tree (b.trees_are k)))) (ap later_trees b.trees_are) total (omega (arith, b.fewer))
