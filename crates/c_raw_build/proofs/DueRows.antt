-- What is due after a row, tokens or a tree.
use Rattle.std.specs.Prelude.{ℕ, zero, suc, ◌≡◌, ◌+◌, ◌<◌, ◌^◌, Bool, true, false, not, ◌||◌, ◌==◌, List, [], ◌∷◌, length, map, Some, slice_get, refl}
use Rattle.std.specs.List.{list_all}
use Rattle.std.specs.Option.{option_map}
use Rattle.std.proofs.Common.{ap, sym, ◌∙◌, subst, arith, eqb-true, inl, inr}
use Rattle.std.proofs.lemmas.Bool.{or_cases}
use Rattle.std.proofs.lemmas.Option.{slice_get-map}
use Rattle.va_base.proofs.Tests.{true_not_false}
use Rattle.predict.specs.declared.symbol.Symbol.{Symbol}
use Rattle.predict.specs.declared.symbol.Symbol.TheVariants.{Kind, Left}
use Rattle.predict.specs.declared.tree.ParseNode.{ParseNode}
use Rattle.predict.specs.FirstFit.{Written, IsRowOf}
use Rattle.predict.specs.Sentence.{IsTreeOf, ArePartsOf, first}
use Rattle.predict.specs.Table.{is_among}
use Rattle.predict.specs.Tree.{Tree, Parts, node, no_parts, spelling_of}
use Rattle.predict.proofs.Lists.{implied, at_each, each_told, among_passes}
use Rattle.c_tree.specs.Words.{template}
use Rattle.c_syntax.specs.grammar.Names.{class_names, number_names, mark_names, word_names, field_names, kind_names, nonterminal_names}
use Rattle.c_syntax.specs.grammar.Rows.{row_texts, written_rows}
use Rattle.c_syntax.specs.grammar.Sets.{c_grammar, c_rules}
use Rattle.c_syntax.proofs.Tables.{row_written}
use Rattle.c_raw_build.specs.Due.{AreDerived, AreDue, IsDue, is_one_of}
use Rattle.c_raw_build.specs.Placed.{Placed, width, width_of, row_of}
use Rattle.c_raw_build.specs.Reading.{Ahead, TakesRow, Passes, Reads, row_symbols, first_tree, later_trees, parts_from, trees, trees_of}
use Rattle.c_raw_build.proofs.Trees.{symbols_are}

-- The rows of the nonterminals.

-- the nonterminal of each row
abbrev row_lefts : List ℕ
row_lefts =
    0 ∷ 1 ∷ 2 ∷ 2 ∷ 3 ∷ 4 ∷ 5 ∷ 5 ∷ 6 ∷ 6 ∷ 7 ∷ 8 ∷ 8 ∷ 9 ∷ 9 ∷ 10 ∷ 10 ∷ 11 ∷ 11 ∷ 12 ∷ 12 ∷ 13 ∷ 13 ∷ 14 ∷ 14 ∷ 15 ∷
    15 ∷ 16 ∷ 17 ∷ 18 ∷ 19 ∷ 20 ∷ 21 ∷ 22 ∷ 22 ∷ 23 ∷ 23 ∷ 23 ∷ 23 ∷ 23 ∷ 23 ∷ 23 ∷ 23 ∷ 24 ∷ 24 ∷ 25 ∷ 25 ∷ 26 ∷ 26 ∷
    27 ∷ 27 ∷ 27 ∷ 27 ∷ 27 ∷ 28 ∷ 28 ∷ 29 ∷ 29 ∷ 30 ∷ 30 ∷ 31 ∷ 31 ∷ 32 ∷ 32 ∷ 33 ∷ 33 ∷ 33 ∷ 33 ∷ 33 ∷ 33 ∷ 33 ∷ 33 ∷
    33 ∷ 33 ∷ 33 ∷ 34 ∷ 34 ∷ 34 ∷ 34 ∷ 34 ∷ 34 ∷ 35 ∷ 36 ∷ 36 ∷ 36 ∷ 37 ∷ 37 ∷ 37 ∷ 37 ∷ 38 ∷ 39 ∷ 40 ∷ 41 ∷ 42 ∷ 43 ∷
    44 ∷ 45 ∷ 46 ∷ 46 ∷ 47 ∷ 47 ∷ 48 ∷ 48 ∷ 49 ∷ 49 ∷ 49 ∷ 50 ∷ 50 ∷ 50 ∷ 51 ∷ 51 ∷ 52 ∷ 53 ∷ 54 ∷ 54 ∷ 55 ∷ 56 ∷ 56 ∷
    57 ∷ 58 ∷ 58 ∷ 59 ∷ 59 ∷ 60 ∷ 60 ∷ 61 ∷ 61 ∷ 62 ∷ 63 ∷ 63 ∷ 64 ∷ 65 ∷ 65 ∷ 66 ∷ 66 ∷ 67 ∷ 67 ∷ 68 ∷ 68 ∷ 68 ∷ 69 ∷
    70 ∷ 71 ∷ 71 ∷ []

lefts_are : map (λ (w : Written). w.left) written_rows ≡ row_lefts
unfolding template class_names number_names mark_names word_names field_names kind_names nonterminal_names row_texts written_rows
lefts_are = refl

-- whether these nonterminals have no rows but those
abbrev pub has_rows : List ℕ → List ℕ → Bool
has_rows lefts among = at_each (λ i left. not (is_among lefts left) || is_among among i) 0 row_lefts

left_listed : (row left : ℕ) (symbols : List Symbol) → IsRowOf c_grammar row left symbols → slice_get row_lefts row ≡ Some left
left_listed row left symbols is =
    ap (λ (l : List ℕ). slice_get l row) (sym lefts_are) ∙ slice_get-map (λ (w : Written). w.left) written_rows row ∙ ap (option_map (λ (w : Written). w.left)) is

row_among : (lefts among : List ℕ) (left row : ℕ) (symbols : List Symbol) → has_rows lefts among ≡ true → is_among lefts left ≡ true → IsRowOf c_grammar row left symbols
    → is_among among row ≡ true
row_among lefts among left row symbols has one is =
    implied (is_among lefts left) (is_among among row)
    (each_told (λ i l. not (is_among lefts l) || is_among among i) 0 row_lefts row row left has (left_listed row left symbols is) (omega arith)) one

-- what holds of each of some numbers
abbrev pub Each : (ℕ → Type 0) → List ℕ → Type 0
Each P [] = Unit {0}
Each P (n ∷ ns) = P n × Each P ns

pub each_at : (P : ℕ → Type 0) (ns : List ℕ) (n : ℕ) → Each P ns → is_among ns n ≡ true → P n
each_at P [] n each h = absurd (true_not_false h refl)
each_at P (m ∷ ns) n each h = elim (or_cases (n == m) (is_among ns n) h) [ inl e ↦ subst P (sym (eqb-true n m e)) each.0 | inr b ↦ each_at P ns n each.1 b ]

-- no tree is derived where no node is left
no_tree : (left next : ℕ) → IsTreeOf c_rules left (node 0 no_parts) next → ⊥
unfolding row_symbols
no_tree left next h = subst (λ (symbols : List Symbol). ArePartsOf c_rules symbols no_parts next) (sym (symbols_are 0 (left, next, h.0))) h.1

some_left : (left next : ℕ) (nodes : List ParseNode) → IsTreeOf c_rules left (first_tree (trees_of nodes)) next → 0 < length nodes
some_left left next [] h = absurd (no_tree left next h)
some_left left next (n ∷ nodes) h = omega arith

-- where a tree is due, a node is left
pub node_left : {lefts : List ℕ} {a : Ahead} → IsDue lefts a → 0 < length a.nodes
node_left {a = a} d = some_left d.left d.due.derived.0.0 a.nodes d.due.derived.0.1

tree_row : (lefts among : List ℕ) (left next : ℕ) (t : Tree) → has_rows lefts among ≡ true → is_among lefts left ≡ true → IsTreeOf c_rules left t next
    → is_among among (row_of t) ≡ true
tree_row lefts among left next (node row parts) has one is =
    row_among lefts among left row (c_rules.symbols row) has one (row_written left (first (spelling_of parts) next) row is.0)

-- the row of a tree that is due is one of these
next_among : {lefts : List ℕ} {a : Ahead} (among : List ℕ) → IsDue lefts a → has_rows lefts among ≡ true → is_among among (row_of (first_tree (trees a))) ≡ true
unfolding is_one_of
next_among {lefts} {a} among d has = tree_row lefts among d.left d.due.derived.0.0 (first_tree (trees a)) has d.is_one d.due.derived.0.1

pub one_alone : (k n : ℕ) → is_among (k ∷ []) n ≡ true → n ≡ k
one_alone k n h = each_at (λ (i : ℕ). i ≡ k) (k ∷ []) n (refl, tt) h

-- the nonterminal has this row alone
pub only : {lefts : List ℕ} {a : Ahead} (k : ℕ) → IsDue lefts a → has_rows lefts (k ∷ []) ≡ true → row_of (first_tree (trees a)) ≡ k
only {a = a} k d has = one_alone k (row_of (first_tree (trees a))) (next_among (k ∷ []) d has)

-- the nonterminals have these rows alone, and the next is none of them: this can't be
pub none_next : {lefts : List ℕ} {a : Ahead} {row : ℕ} (among : List ℕ) → IsDue lefts a → row ≡ row_of (first_tree (trees a)) → has_rows lefts among ≡ true
    → Each (λ (k : ℕ). row ≡ k → ⊥) among → ⊥
none_next {a = a} {row = row} among d is has none =
    each_at (λ (k : ℕ). row ≡ k → ⊥) among row none (subst (λ (n : ℕ). is_among among n ≡ true) (sym is) (next_among among d has)) refl

-- nor is the one that was taken
pub no_other : {lefts : List ℕ} {row : ℕ} {a b : Ahead} (among : List ℕ) → IsDue lefts a → TakesRow a b row → has_rows lefts among ≡ true
    → Each (λ (k : ℕ). row ≡ k → ⊥) among → ⊥
no_other among d t has none = none_next among d (sym (ap (λ (ts : List Tree). row_of (first_tree ts)) t.trees_are)) has none

-- what holds for each of the rows of the nonterminals holds
pub by_row : {G : Type 0} {lefts : List ℕ} {row : ℕ} {a b : Ahead} (among : List ℕ) → IsDue lefts a → TakesRow a b row → has_rows lefts among ≡ true
    → Each (λ (k : ℕ). row ≡ k → G) among → G
by_row {G = G} {row = row} {a = a} among d t has each =
    let is : is_among among row ≡ true =
    subst (λ (n : ℕ). is_among among n ≡ true) (ap (λ (ts : List Tree). row_of (first_tree ts)) t.trees_are) (next_among among d has) in
    each_at (λ (k : ℕ). row ≡ k → G) among row each is refl

-- What is due next.

-- the symbols behind the first ones
abbrev pub rest_of : ℕ → List Symbol → List Symbol
rest_of zero symbols = symbols
rest_of (suc n) [] = []
rest_of (suc n) (s ∷ symbols) = rest_of n symbols

-- whether the first symbols are kinds
abbrev pub are_kinds : ℕ → List Symbol → Bool
are_kinds zero symbols = true
are_kinds (suc n) [] = false
are_kinds (suc n) (Kind k ∷ symbols) = are_kinds n symbols
are_kinds (suc n) (Left left ∷ symbols) = false

-- whether the first symbol is one of these nonterminals
abbrev pub begins_among : List ℕ → List Symbol → Bool
begins_among lefts [] = false
begins_among lefts (Kind k ∷ symbols) = false
begins_among lefts (Left left ∷ symbols) = is_among lefts left

-- whether it is a nonterminal
abbrev pub begins_left : List Symbol → Bool
begins_left [] = false
begins_left (Kind k ∷ symbols) = false
begins_left (Left left ∷ symbols) = true

parts_derived : (symbols : List Symbol) (ts : List Tree) (next : ℕ) → ArePartsOf c_rules symbols (parts_from symbols ts) next → AreDerived symbols ts
parts_derived [] ts next h = tt
parts_derived (Kind k ∷ symbols) ts next h = parts_derived symbols ts next h.1
parts_derived (Left left ∷ symbols) ts next h = ((first (spelling_of (parts_from symbols (later_trees ts))) next, h.0), parts_derived symbols (later_trees ts) next h.1)

row_due : (left row : ℕ) (a b : Ahead) → AreDue (Left left ∷ []) a → TakesRow a b row → AreDue (row_symbols row) b
row_due left row a b d t =
    let next : ℕ = d.derived.0.0 in
    let parts : Parts = parts_from (row_symbols row) (trees b) in
    let is : IsTreeOf c_rules left (node row parts) next = subst (λ (ts : List Tree). IsTreeOf c_rules left (first_tree ts) next) t.trees_are d.derived.0.1 in
    let same : row_symbols row ≡ c_rules.symbols row = symbols_are row (left, first (spelling_of parts) next, is.0) in
    let wide : width (first_tree (trees a)) ≡ width_of parts = ap (λ (ts : List Tree). width (first_tree ts)) t.trees_are in
    record {
      derived = parts_derived (row_symbols row) (trees b) next (subst (λ (symbols : List Symbol). ArePartsOf c_rules symbols parts next) (sym same) is.1);
      fits = omega (arith, d.fits, wide, t.at_is);
    }

-- the symbols of the row with this number are due, which was taken
pub taken : {lefts : List ℕ} {row : ℕ} {a b : Ahead} (k : ℕ) → IsDue lefts a → TakesRow a b row → row ≡ k → AreDue (row_symbols k) b
taken {row = row} {a = a} {b = b} k d t is = subst (λ (i : ℕ). AreDue (row_symbols i) b) is (row_due d.left row a b d.due t)

kinds_wide : (n : ℕ) (symbols : List Symbol) (ts : List Tree) → are_kinds n symbols ≡ true → width_of (parts_from symbols ts) ≡ width_of (parts_from (rest_of n symbols) ts) + n
kinds_wide zero symbols ts h = omega arith
kinds_wide (suc n) [] ts h = absurd (true_not_false h refl)
kinds_wide (suc n) (Kind k ∷ symbols) ts h = omega (arith, kinds_wide n symbols ts h)
kinds_wide (suc n) (Left left ∷ symbols) ts h = absurd (true_not_false h refl)

kinds_derived : (n : ℕ) (symbols : List Symbol) (ts : List Tree) → are_kinds n symbols ≡ true → AreDerived symbols ts → AreDerived (rest_of n symbols) ts
kinds_derived zero symbols ts h d = d
kinds_derived (suc n) [] ts h d = absurd (true_not_false h refl)
kinds_derived (suc n) (Kind k ∷ symbols) ts h d = kinds_derived n symbols ts h d
kinds_derived (suc n) (Left left ∷ symbols) ts h d = absurd (true_not_false h refl)

-- so many tokens have indices of 32 bits
pub room : {symbols : List Symbol} {a : Ahead} (n : ℕ) → AreDue symbols a → are_kinds n symbols ≡ true → a.at + n < 2 ^ 32
room {symbols} {a} n d h = omega (arith, d.fits, kinds_wide n symbols (trees a) h)

-- so many tokens were passed
pub passed : {symbols : List Symbol} {a b : Ahead} (n : ℕ) → AreDue symbols a → Passes a b n → are_kinds n symbols ≡ true → AreDue (rest_of n symbols) b
passed {symbols} {a} {b} n d p h =
    let same : trees b ≡ trees a = ap trees_of p.nodes_are in
    let wide : width_of (parts_from (rest_of n symbols) (trees b)) ≡ width_of (parts_from (rest_of n symbols) (trees a)) =
    ap (λ (ts : List Tree). width_of (parts_from (rest_of n symbols) ts)) same in
    record {
      derived = subst (AreDerived (rest_of n symbols)) (sym same) (kinds_derived n symbols (trees a) h d.derived);
      fits = omega (arith, d.fits, p.at_is, kinds_wide n symbols (trees a) h, wide);
    }

left_behind : (symbols : List Symbol) (a b : Ahead) → AreDue symbols a → trees b ≡ later_trees (trees a) → b.at ≡ a.at + width (first_tree (trees a))
    → begins_left symbols ≡ true → AreDue (rest_of 1 symbols) b
left_behind [] a b d trees_are at_is h = absurd (true_not_false h refl)
left_behind (Kind k ∷ symbols) a b d trees_are at_is h = absurd (true_not_false h refl)
left_behind (Left left ∷ symbols) a b d trees_are at_is h =
    let wide : width_of (parts_from symbols (trees b)) ≡ width_of (parts_from symbols (later_trees (trees a))) =
    ap (λ (ts : List Tree). width_of (parts_from symbols ts)) trees_are in
    record { derived = subst (AreDerived symbols) (sym trees_are) d.derived.1; fits = omega (arith, d.fits, at_is, wide) }

-- a tree was read
pub behind : {X : Type 0} {symbols : List Symbol} {meaning : Placed → X} {a b : Ahead} {value : X} → AreDue symbols a → Reads meaning a b value → begins_left symbols ≡ true
    → AreDue (rest_of 1 symbols) b
behind {symbols = symbols} {a = a} {b = b} d r h = left_behind symbols a b d r.trees_are r.at_is h

first_due : (lefts : List ℕ) (symbols : List Symbol) (a : Ahead) → AreDue symbols a → begins_among lefts symbols ≡ true → IsDue lefts a
unfolding is_one_of
first_due lefts [] a d h = absurd (true_not_false h refl)
first_due lefts (Kind k ∷ symbols) a d h = absurd (true_not_false h refl)
first_due lefts (Left left ∷ symbols) a d h =
    record { left = left; is_one = h; due = record { derived = (d.derived.0, tt); fits = omega (arith, d.fits) } }

-- the first of several trees is due
pub due : {lefts : List ℕ} {symbols : List Symbol} {a : Ahead} → AreDue symbols a → begins_among lefts symbols ≡ true → IsDue lefts a
due {lefts} {symbols} {a} d h = first_due lefts symbols a d h

-- a tree of some nonterminals is one of more
pub wider : {lefts more : List ℕ} {a : Ahead} → IsDue lefts a → list_all (is_among more) lefts ≡ true → IsDue more a
unfolding is_one_of
wider {lefts} {more} d h = record { left = d.left; is_one = among_passes (is_among more) lefts d.left h d.is_one; due = d.due }
