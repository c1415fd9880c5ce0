-- What is due while a body is read.
use Rattle.std.specs.Prelude.{ℕ, zero, suc, ◌≡◌, ◌+◌, ◌<◌, ◌^◌, true, List, [], ◌∷◌, ◌++◌, length, refl}
use Rattle.std.proofs.Common.{ap, sym, ◌∙◌, subst, arith}
use Rattle.std.proofs.lemmas.List.{append_assoc}
use Rattle.predict.specs.declared.symbol.Symbol.{Symbol}
use Rattle.predict.specs.declared.symbol.Symbol.TheVariants.{Kind, Left}
use Rattle.predict.specs.Tree.{Tree, node, spelling, spelling_of}
use Rattle.predict.specs.Table.{is_among}
use Rattle.predict.proofs.Lists.{among_one}
use Rattle.c_raw_build.specs.BodyDue.{tokens_of, behind_blocks, left_of_body}
use Rattle.c_raw_build.specs.Due.{AreDerived, HasTokens, AreDueIn, IsDueIn, is_one_of}
use Rattle.c_raw_build.specs.Nonterminals as nonterminals
use Rattle.c_raw_build.specs.Placed.{width, width_of}
use Rattle.c_raw_build.specs.Reading.{Ahead, TakesRow, Passes, row_symbols, first_tree, later_trees, parts_from, trees, trees_behind}
use Rattle.c_raw_build.specs.Words.{CText}
use Rattle.c_raw_build.proofs.DueRows.{rest_of, are_kinds, one_alone, room}
use Rattle.c_raw_build.proofs.DueTokens.{due, moved, passed, split, taken}

-- symbols before others, on the same trees

derived_more : (s more : List Symbol) (ts : List Tree) → AreDerived s ts → AreDerived more (trees_behind s ts) → AreDerived (s ++ more) ts
derived_more [] more ts d e = e
derived_more (Kind k ∷ s) more ts d e = derived_more s more ts d e
derived_more (Left left ∷ s) more ts d e = (d.0, derived_more s more (later_trees ts) d.1 e)

width_more : (s more : List Symbol) (ts : List Tree) → width_of (parts_from (s ++ more) ts) ≡ width_of (parts_from s ts) + width_of (parts_from more (trees_behind s ts))
width_more [] more ts = omega arith
width_more (Kind k ∷ s) more ts = omega (arith, width_more s more ts)
width_more (Left left ∷ s) more ts = omega (arith, width_more s more (later_trees ts))

spelled_more : (s more : List Symbol) (ts : List Tree)
    → spelling_of (parts_from (s ++ more) ts) ≡ spelling_of (parts_from s ts) ++ spelling_of (parts_from more (trees_behind s ts))
spelled_more [] more ts = refl
spelled_more (Kind k ∷ s) more ts = ap (λ (l : List ℕ). k ∷ l) (spelled_more s more ts)
spelled_more (Left left ∷ s) more ts =
    ap (λ (l : List ℕ). spelling (first_tree ts) ++ l) (spelled_more s more (later_trees ts))
    ∙ sym (append_assoc (spelling (first_tree ts)) (spelling_of (parts_from s (later_trees ts))) (spelling_of (parts_from more (trees_behind s (later_trees ts)))))

both_tokens : (text : CText) (at : ℕ) (xs ys : List ℕ) → HasTokens text at xs → HasTokens text (at + length xs) ys → HasTokens text at (xs ++ ys)
unfolding HasTokens
both_tokens text at [] ys x y = moved text (at + 0) at ys (omega arith) y
both_tokens text at (k ∷ xs) ys x y = (x.0, both_tokens text (at + 1) xs ys x.1 (moved text (at + suc (length xs)) (at + 1 + length xs) ys (omega arith) y))

-- the symbols of a row are due, which was taken, and behind them what was due behind its tree
pub taken_before : {text : CText} {row : ℕ} {a b : Ahead} {more : List Symbol} (left k : ℕ) → AreDueIn text (Left left ∷ more) a → TakesRow a b row → row ≡ k
    → AreDueIn text (row_symbols k ++ more) b
taken_before {text} {row} {a} {b} {more} left k d taken_row is =
    let t : TakesRow a b k = subst (TakesRow a b) is taken_row in
    let front : AreDueIn text (row_symbols k) b = taken k (due {lefts = left ∷ []} d (among_one left)) taken_row is in
    let ts : List Tree = trees_behind (row_symbols k) (trees b) in
    let first : first_tree (trees a) ≡ node k (parts_from (row_symbols k) (trees b)) = ap first_tree t.trees_are in
    let later : later_trees (trees a) ≡ ts = ap later_trees t.trees_are in
    let wide : width (first_tree (trees a)) ≡ width_of (parts_from (row_symbols k) (trees b)) = ap width first in
    let wide_more : width_of (parts_from more (later_trees (trees a))) ≡ width_of (parts_from more ts) = ap (λ (l : List Tree). width_of (parts_from more l)) later in
    let rest = split text a.at (spelling (first_tree (trees a))) (spelling_of (parts_from more (later_trees (trees a)))) d.tokens in
    let to : a.at + length (spelling (first_tree (trees a))) ≡ b.at + length (spelling_of (parts_from (row_symbols k) (trees b))) =
    (λ j. sym t.at_is j + length (spelling (first j))) in
    let back : HasTokens text (b.at + length (spelling_of (parts_from (row_symbols k) (trees b)))) (spelling_of (parts_from more ts)) =
    subst (λ (l : List Tree). HasTokens text (b.at + length (spelling_of (parts_from (row_symbols k) (trees b)))) (spelling_of (parts_from more l))) later
    (moved text _ _ (spelling_of (parts_from more (later_trees (trees a)))) to rest.back) in
    record {
      due = record {
        derived = derived_more (row_symbols k) more (trees b) front.due.derived (subst (AreDerived more) later d.due.derived.1);
        fits = omega (arith, d.due.fits, wide, wide_more, width_more (row_symbols k) more (trees b), t.at_is);
      };
      tokens = subst (HasTokens text b.at) (sym (spelled_more (row_symbols k) more (trees b)))
          (both_tokens text b.at (spelling_of (parts_from (row_symbols k) (trees b))) (spelling_of (parts_from more ts)) front.tokens back);
    }

-- a tree alone, of which something else is due behind
pub alone_due : {text : CText} {a : Ahead} (left : ℕ) → IsDueIn text (left ∷ []) a → AreDueIn text (Left left ∷ []) a
unfolding is_one_of
alone_due {text} {a} left d = subst (λ (l : ℕ). AreDueIn text (Left l ∷ []) a) (one d.left d.is_one) d.due
  where
    one : (l : ℕ) → is_among (left ∷ []) l ≡ true → l ≡ left
    one l h = one_alone left l h

count_kinds : (n : ℕ) (kinds : List ℕ) (more : List Symbol) → are_kinds n (tokens_of n kinds ++ more) ≡ true
count_kinds zero kinds more = refl
count_kinds (suc n) [] more = count_kinds n [] more
count_kinds (suc n) (k ∷ kinds) more = count_kinds n kinds more

count_rest : (n : ℕ) (kinds : List ℕ) (more : List Symbol) → rest_of n (tokens_of n kinds ++ more) ≡ more
count_rest zero kinds more = refl
count_rest (suc n) [] more = count_rest n [] more
count_rest (suc n) (k ∷ kinds) more = count_rest n kinds more

-- what stands behind a block was passed
pub block_passed : {text : CText} {a b : Ahead} (count : ℕ) (open_blocks : List ℕ) → AreDueIn text (behind_blocks (count ∷ open_blocks)) a → Passes a b count
    → AreDueIn text (left_of_body open_blocks) b
block_passed {text} {a} {b} count open_blocks d p =
    let kinds : List ℕ = 49 ∷ 113 ∷ 48 ∷ [] in
    let more : List Symbol = left_of_body open_blocks in
    subst (λ (symbols : List Symbol). AreDueIn text symbols b) (count_rest count kinds more) (passed count d p (count_kinds count kinds more))

-- it can be passed
pub block_room : {text : CText} {a : Ahead} (count : ℕ) (open_blocks : List ℕ) → AreDueIn text (behind_blocks (count ∷ open_blocks)) a → a.at + count < 2 ^ 32
block_room {text} {a} count open_blocks d = room count d.due (count_kinds count (49 ∷ 113 ∷ 48 ∷ []) (left_of_body open_blocks))
