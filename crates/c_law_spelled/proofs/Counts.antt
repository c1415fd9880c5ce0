-- How many elements the lists of a text have: no more than it has tokens.
use Rattle.std.proofs.Common.{◌≡◌, ◌<◌, ◌≤◌, ◌+◌, ◌^◌, ℕ, suc, List, [], ◌∷◌, length, refl, sym, subst, ◌∙◌, arith, Some, None, Option}
use Rattle.std.specs.Prelude.{Bool, true, false, ◌&&◌, if◌then◌else◌, cond, slice_get, map, nat_lt}
use Rattle.std.specs.List.{filter}
use Rattle.std.proofs.lemmas.Bool.{and_parts, lt-ltb}
use Rattle.std.proofs.lemmas.List.{length-map}
use Rattle.std.proofs.lemmas.Option.{slice_get_within}
use Rattle.va_base.proofs.Tests.{true_not_false}
use Rattle.predict.specs.declared.symbol.Symbol.{Symbol}
use Rattle.predict.specs.declared.symbol.Symbol.TheVariants.{Kind, Left}
use Rattle.predict.specs.Tree.{Tree, Parts, node, no_parts, token, subtree, spelling, spelling_of}
use Rattle.c_tree.specs.Spelling.{is_counted}
use Rattle.c_tree.specs.declared.token.CToken.{CToken}
use Rattle.c_tree.specs.tokens.Spelling.{is_token}
use Rattle.c_raw_build.specs.Placed.{Placed, width, width_of, is_of, parts_of, subtree_at, part, has_subtree, spine, spine_of, elements, before_first, elements_before}
use Rattle.c_raw_build.specs.RowNumbers.{modules_row, module_row, structs_row}
use Rattle.c_raw_build.specs.Words.{CText, word_of, word_at}
use Rattle.c_law_words.proofs.Derived.{Derives, Fit}
use Rattle.c_law_print_parses.proofs.Lefts.{modules_left, module_left, structs_left}
use Rattle.c_law_words.proofs.Listed.{row_list}
use Rattle.c_law_spelled.proofs.Rows.{KindsAt, tree_width, parts_width, tree_split, symbols_in, IsOf, IsRow, sub, by_rows, known_row}

-- where a word stands, a token does
token_there : (text : CText) (at : ℕ) → is_token (word_at text at) ≡ true → at < length text.tokens
token_there text at h = by_token (slice_get text.tokens at) refl h
  where
    by_token : (o : Option CToken) → slice_get text.tokens at ≡ o → is_token (word_of text o) ≡ true → at < length text.tokens
    by_token None e h = absurd (true_not_false h refl)
    by_token (Some t) e h = slice_get_within text.tokens at t e

kinds_inside : (text : CText) (at : ℕ) (kinds : List ℕ) → at ≤ length text.tokens → KindsAt text at kinds → at + length kinds ≤ length text.tokens
kinds_inside text at [] h s = omega (arith, h)
kinds_inside text at (k ∷ kinds) h s =
    let there = token_there text at s.0.token in
    let rest = kinds_inside text (at + 1) kinds (omega (arith, there)) s.1 in
    omega (arith, rest)

kinds_few : (text : CText) (at : ℕ) (kinds : List ℕ) → KindsAt text at kinds → length kinds ≤ length text.tokens
kinds_few text at [] s = omega arith
kinds_few text at (k ∷ kinds) s =
    let there = token_there text at s.0.token in
    let rest = kinds_inside text at (k ∷ kinds) (omega (arith, there)) s in
    omega (arith, rest)

width_few : {text : CText} (left : ℕ) (p : Placed) → IsOf text left p → width p.tree ≤ length text.tokens
width_few {text} left p o = let few = kinds_few text p.at (spelling p.tree) o.stands in subst (λ n. n ≤ length text.tokens) (sym (tree_width p.tree)) few

-- how many tokens of parts stand outside the last subtree
abbrev own : Parts → ℕ
own no_parts = 0
own (token k parts) = own parts + 1
own (subtree t parts) = if has_subtree parts then width t + own parts else width_of parts

-- the rows of a number own a token
abbrev Owns : CText → ℕ → Type 0
Owns text k = (q : Placed) → IsRow text k q → 1 ≤ own (parts_of q.tree)

module _ {text : CText} (k : ℕ) (owns : Owns text k) where
  mutual
    spine_few : (left at : ℕ) (t : Tree) → Derives row_list left t → KindsAt text at (spelling t) → length (filter (is_of k) (spine at t)) ≤ width t
    spine_few left at (node row parts) d s =
        by_test (is_of k (record { at = at; tree = node row parts })) refl (parts_few d.0 at parts d.2 s)
      where
        by_test : (b : Bool) → is_of k (record { at = at; tree = node row parts }) ≡ b → length (filter (is_of k) (spine_of at parts)) + own parts ≤ width_of parts
            → length (cond b (record { at = at; tree = node row parts } ∷ filter (is_of k) (spine_of at parts)) (filter (is_of k) (spine_of at parts))) ≤ width_of parts
        by_test true e h =
            let one : 1 ≤ own parts = owns (record { at = at; tree = node row parts }) (known_row text k (record { at = at; tree = node row parts }) (left, record { derived = d; stands = s }) e) in
            omega (arith, h, one)
        by_test false e h = omega (arith, h)

    parts_few : (symbols : List Symbol) (at : ℕ) (parts : Parts) → Fit row_list symbols parts → KindsAt text at (spelling_of parts)
        → length (filter (is_of k) (spine_of at parts)) + own parts ≤ width_of parts
    parts_few symbols at no_parts f s = omega arith
    parts_few (Kind x ∷ symbols) at (token j parts) f s = omega (arith, parts_few symbols (at + 1) parts f.1 s.1)
    parts_few (Left x ∷ symbols) at (subtree t parts) f s =
        let p = tree_split text at t parts s in
        by_test (has_subtree parts) (spine_few x at t f.0 p.0) (parts_few symbols (at + width t) parts f.1 p.1)
      where
        by_test : (b : Bool) → length (filter (is_of k) (spine at t)) ≤ width t
            → length (filter (is_of k) (spine_of (at + width t) parts)) + own parts ≤ width_of parts
            → length (filter (is_of k) (if b then spine_of (at + width t) parts else spine at t)) + (if b then width t + own parts else width_of parts) ≤ width t + width_of parts
        by_test true h g = omega (arith, h, g)
        by_test false h g = omega (arith, h, g)
    parts_few [] at (token j parts) f s = absurd f
    parts_few [] at (subtree t parts) f s = absurd f
    parts_few (Kind x ∷ symbols) at (subtree t parts) f s = absurd f
    parts_few (Left x ∷ symbols) at (token j parts) f s = absurd f

  elements_few : (left : ℕ) (p : Placed) → IsOf text left p → length (elements k p) ≤ length text.tokens
  elements_few left p o =
      let few = spine_few left p.at p.tree o.derived o.stands in
      let all = width_few left p o in
      omega (arith, few, all)

  before_few : (stop : ℕ) (qs : List Placed) → length (filter (is_of k) (before_first stop qs)) ≤ length (filter (is_of k) qs)
  before_few stop [] = omega arith
  before_few stop (q ∷ qs) = by_tests (is_of stop q) (is_of k q) refl (before_few stop qs)
    where
      by_tests : (b d : Bool) → is_of k q ≡ d → length (filter (is_of k) (before_first stop qs)) ≤ length (filter (is_of k) qs)
          → length (filter (is_of k) (if b then [] else q ∷ before_first stop qs)) ≤ length (cond (is_of k q) (q ∷ filter (is_of k) qs) (filter (is_of k) qs))
      by_tests true d e h = omega arith
      by_tests false d e h = kept (is_of k q) h
        where
          kept : (d : Bool) → length (filter (is_of k) (before_first stop qs)) ≤ length (filter (is_of k) qs)
              → length (cond d (q ∷ filter (is_of k) (before_first stop qs)) (filter (is_of k) (before_first stop qs))) ≤ length (cond d (q ∷ filter (is_of k) qs) (filter (is_of k) qs))
          kept true h = omega (arith, h)
          kept false h = h

  elements_before_few : (stop left : ℕ) (p : Placed) → IsOf text left p → length (elements_before stop k p) ≤ length text.tokens
  elements_before_few stop left p o =
      let fewer = before_few stop (spine p.at p.tree) in
      let few = spine_few left p.at p.tree o.derived o.stands in
      let all = width_few left p o in
      omega (arith, fewer, few, all)

-- whether a nonterminal is among symbols
abbrev has_left : List Symbol → Bool
has_left [] = false
has_left (Kind k ∷ symbols) = has_left symbols
has_left (Left left ∷ symbols) = true

-- whether a token stands before the last nonterminal, and only nonterminals with others behind them before it
abbrev pub owns_token : List Symbol → Bool
owns_token [] = false
owns_token (Kind k ∷ symbols) = true
owns_token (Left left ∷ symbols) = has_left symbols && owns_token symbols

left_there : (symbols : List Symbol) (parts : Parts) → Fit row_list symbols parts → has_left symbols ≡ has_subtree parts
left_there [] no_parts f = refl
left_there (Kind k ∷ symbols) (token j parts) f = left_there symbols parts f.1
left_there (Left left ∷ symbols) (subtree t parts) f = refl
left_there [] (token j parts) f = absurd f
left_there [] (subtree t parts) f = absurd f
left_there (Kind k ∷ symbols) no_parts f = absurd f
left_there (Kind k ∷ symbols) (subtree t parts) f = absurd f
left_there (Left left ∷ symbols) no_parts f = absurd f
left_there (Left left ∷ symbols) (token j parts) f = absurd f

own_token : (symbols : List Symbol) (parts : Parts) → Fit row_list symbols parts → owns_token symbols ≡ true → 1 ≤ own parts
own_token [] parts f h = absurd (true_not_false h refl)
own_token (Kind k ∷ symbols) (token j parts) f h = omega arith
own_token (Left left ∷ symbols) (subtree t parts) f h =
    let p = and_parts (has_left symbols) (owns_token symbols) h in
    by_test (has_subtree parts) (sym (left_there symbols parts f.1) ∙ p.0) (own_token symbols parts f.1 p.1)
  where
    by_test : (b : Bool) → b ≡ true → 1 ≤ own parts → 1 ≤ (if b then width t + own parts else width_of parts)
    by_test true e h = omega (arith, h)
    by_test false e h = absurd (true_not_false e refl)
own_token (Kind k ∷ symbols) no_parts f h = absurd f
own_token (Kind k ∷ symbols) (subtree t parts) f h = absurd f
own_token (Left left ∷ symbols) no_parts f h = absurd f
own_token (Left left ∷ symbols) (token j parts) f h = absurd f

row_owns : {text : CText} (k : ℕ) → owns_token (symbols_in k) ≡ true → Owns text k
row_owns k e q r = own_token (symbols_in k) (parts_of q.tree) r.fit e

-- each module has a token
first_width : (at : ℕ) (parts : Parts) → width (subtree_at 0 at parts).tree ≤ width_of parts
first_width at no_parts = omega arith
first_width at (token k parts) = omega (arith, first_width (at + 1) parts)
first_width at (subtree t parts) = omega arith

token_first : (symbols : List Symbol) (k : ℕ) (parts : Parts) → Fit row_list (Kind k ∷ symbols) parts → 1 ≤ width_of parts
token_first symbols k no_parts f = absurd f
token_first symbols k (token j parts) f = omega arith
token_first symbols k (subtree t parts) f = absurd f

abbrev pub begins_token : List Symbol → Bool
begins_token [] = false
begins_token (Kind k ∷ symbols) = true
begins_token (Left left ∷ symbols) = false

begun : (symbols : List Symbol) (parts : Parts) → begins_token symbols ≡ true → Fit row_list symbols parts → 1 ≤ width_of parts
begun [] parts e f = absurd (true_not_false e refl)
begun (Kind k ∷ symbols) parts e f = token_first symbols k parts f
begun (Left left ∷ symbols) parts e f = absurd (true_not_false e refl)

own_first : (symbols : List Symbol) (left at : ℕ) (parts : Parts) → has_left symbols ≡ true → Fit row_list (Left left ∷ symbols) parts
    → width (subtree_at 0 at parts).tree ≤ own parts
own_first symbols left at no_parts e f = absurd f
own_first symbols left at (token j parts) e f = absurd f
own_first symbols left at (subtree t parts) e f = by_test (has_subtree parts) (sym (left_there symbols parts f.1) ∙ e)
  where
    by_test : (b : Bool) → b ≡ true → width t ≤ (if b then width t + own parts else width_of parts)
    by_test true e = omega arith
    by_test false e = absurd (true_not_false e refl)

module _ {text : CText} where
  structs_wide : (p : Placed) → IsOf text structs_left p → 1 ≤ width p.tree
  unfolding row_list
  structs_wide p o =
      by_rows (λ q. 1 ≤ width q.tree) structs_left (structs_row ∷ []) p refl o (λ at parts r. begun (symbols_in structs_row) parts refl r.fit, tt)

  module_wide : (p : Placed) → IsOf text module_left p → 1 ≤ width p.tree
  unfolding row_list
  module_wide p o =
      by_rows (λ q. 1 ≤ width q.tree) module_left (module_row ∷ []) p refl o (
        λ at parts r. (let wide = structs_wide _ (sub module_row 0 structs_left _ refl r) in let first = first_width at parts in omega (arith, wide, first)),
        tt,
      )

  modules_own : Owns text modules_row
  unfolding row_list
  modules_own q r =
      let wide = module_wide (part 0 q) (sub modules_row 0 module_left q refl r) in
      let first = own_first (Left modules_left ∷ []) module_left q.at (parts_of q.tree) refl r.fit in
      omega (arith, wide, first)

-- a list of few elements is counted
pub counted : {A : Type 0} (text : CText) (xs : List A) → length text.tokens < 2 ^ 32 → length xs ≤ length text.tokens → is_counted xs ≡ true
counted {A} text xs few h = lt-ltb (length xs) (2 ^ 32) (omega (arith, few, h))

pub counted_map : {A B : Type 0} (f : A → B) (xs : List A) → is_counted xs ≡ true → is_counted (map f xs) ≡ true
counted_map f xs h = subst (λ n. nat_lt n (2 ^ 32) ≡ true) (sym (length-map xs f)) h

-- elements of a row that owns a token
pub elements_counted : {text : CText} (k left : ℕ) (p : Placed) → length text.tokens < 2 ^ 32 → owns_token (symbols_in k) ≡ true → IsOf text left p
    → is_counted (elements k p) ≡ true
elements_counted {text} k left p few e o = counted text (elements k p) few (elements_few k (row_owns k e) left p o)

pub functions_counted : {text : CText} (stop k left : ℕ) (p : Placed) → length text.tokens < 2 ^ 32 → owns_token (symbols_in k) ≡ true → IsOf text left p
    → is_counted (elements_before stop k p) ≡ true
functions_counted {text} stop k left p few e o = counted text (elements_before stop k p) few (elements_before_few k (row_owns k e) stop left p o)

pub modules_counted : {text : CText} (p : Placed) → length text.tokens < 2 ^ 32 → IsOf text modules_left p → is_counted (elements modules_row p) ≡ true
modules_counted {text} p few o = counted text (elements modules_row p) few (elements_few modules_row modules_own modules_left p o)

-- A row that begins with a token has fewer elements in its first part than the text has tokens.
begun_before : (symbols : List Symbol) (at : ℕ) (parts : Parts) → begins_token symbols ≡ true → Fit row_list symbols parts
    → suc (width (subtree_at 0 at parts).tree) ≤ width_of parts
begun_before [] at parts e f = absurd (true_not_false e refl)
begun_before (Kind k ∷ symbols) at no_parts e f = absurd f
begun_before (Kind k ∷ symbols) at (token j parts) e f = omega (arith, first_width (at + 1) parts)
begun_before (Kind k ∷ symbols) at (subtree t parts) e f = absurd f
begun_before (Left left ∷ symbols) at parts e f = absurd (true_not_false e refl)

pub strings_fewer : {text : CText} (k left row : ℕ) (q : Placed) → owns_token (symbols_in k) ≡ true → begins_token (symbols_in row) ≡ true
    → IsOf text left (part 0 q) → IsRow text row q → suc (length (elements k (part 0 q))) ≤ length text.tokens
strings_fewer {text} k left row q e b o r =
    let few = spine_few k (row_owns k e) left (part 0 q).at (part 0 q).tree o.derived o.stands in
    let more = begun_before (symbols_in row) q.at (parts_of q.tree) b r.fit in
    let wide = parts_width (parts_of q.tree) in
    let all = kinds_few text q.at (spelling_of (parts_of q.tree)) r.stands in
    omega (arith, few, more, wide, all)
