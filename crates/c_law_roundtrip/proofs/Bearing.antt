-- Words that bear a module's number: each name of C that holds one holds this one.
use Rattle.std.proofs.Common.{◌≡◌, ℕ, List, [], ◌∷◌, ◌++◌, refl, ap, sym, ◌∙◌, Option, Some, None, arith, eq-eqb}
use Rattle.std.specs.Prelude.{Bool, true, false, not, ◌||◌, nat_eq, nat_lt, nat_le, map, slice_get}
use Rattle.std.specs.List.{list_all, list_any}
use Rattle.std.proofs.lemmas.Bool.{and_parts, and_from}
use Rattle.std.proofs.lemmas.Bool.Decides.{nat_tests}
use Rattle.std.proofs.lemmas.List.Folds.{list_all-append}
use Rattle.predict.specs.declared.symbol.Symbol.{Symbol}
use Rattle.predict.specs.declared.symbol.Symbol.TheVariants.{Kind, Left}
use Rattle.predict.specs.Tree.{Tree, Parts, node, no_parts, token, subtree, spelling, spelling_of}
use Rattle.predict.specs.FirstFit.{Written}
use Rattle.predict.proofs.Lists.{implied, passes_at}
use Rattle.va_base.proofs.Tests.{and_false, or_left, or_right}
use Rattle.c_tree.specs.Words.{Word}
use Rattle.c_raw_build.specs.Words.{has_module_number, module_number}
use Rattle.c_law_words.specs.Kinds.{kind_of_word}
use Rattle.c_law_words.proofs.Derived.{Derives, Fit}
use Rattle.c_law_words.proofs.Listed.{row_list, name_list}
use Rattle.c_law_words.proofs.Pieces.{IsWord, Writes, Pieces, Piece, a_name, a_word, a_tree, words, words_of, flat, flat_same, match, fits, is_name, name_is, no_match}

-- the module's number in a word, if it holds one, is this
abbrev pub bears : ℕ → Word → Bool
bears k w = not (has_module_number (kind_of_word w)) || nat_eq (module_number (kind_of_word w) w) k

abbrev pub all_bear : ℕ → List Word → Bool
all_bear k = list_all (bears k)

-- a word of a kind that holds none
pub plain_bears : (k kind : ℕ) (w : Word) → IsWord kind w → has_module_number kind ≡ false → bears k w ≡ true
plain_bears k kind w word h =
    ap (λ n. not (has_module_number n) || nat_eq (module_number n w) k) word.kind_is
    ∙ or_left (not (has_module_number kind)) (nat_eq (module_number kind w) k) (ap not h)

-- a word of a kind that holds one
pub number_bears : (k kind : ℕ) (w : Word) → IsWord kind w → module_number kind w ≡ k → bears k w ≡ true
number_bears k kind w word e =
    ap (λ n. not (has_module_number n) || nat_eq (module_number n w) k) word.kind_is
    ∙ or_right (not (has_module_number kind)) (nat_eq (module_number kind w) k) (eq-eqb (module_number kind w) k e)

-- two lists of words
pub both_bear : (k : ℕ) (us ws : List Word) → all_bear k us ≡ true → all_bear k ws ≡ true → all_bear k (us ++ ws) ≡ true
both_bear k us ws a b = list_all-append (bears k) us ws ∙ and_from (all_bear k us) (all_bear k ws) a b

-- The nonterminals from which no name with a module's number comes: statements' parts without calls, fields, arguments, access rows,
-- the statements of load functions, pairs and parameters.
abbrev quiet_lefts : List ℕ
quiet_lefts =
    1 ∷ 5 ∷ 6 ∷ 9 ∷ 10 ∷ 11 ∷ 12 ∷ 13 ∷ 14 ∷ 15 ∷ 18 ∷ 24 ∷ 26 ∷ 28 ∷ 30 ∷ 31 ∷ 32 ∷ 33 ∷ 34 ∷ 35 ∷ 36 ∷ 37 ∷ 46 ∷ 47 ∷ 48 ∷
    49 ∷ 50 ∷ 51 ∷ 57 ∷ 58 ∷ 60 ∷ 61 ∷ 62 ∷ 63 ∷ 64 ∷ 65 ∷ 66 ∷ 67 ∷ 68 ∷ []

abbrev pub is_quiet : ℕ → Bool
is_quiet left = list_any (λ n. nat_eq n left) quiet_lefts

abbrev quiet_kind : ℕ → Bool
quiet_kind kind = not (has_module_number kind)

abbrev quiet_symbol : Symbol → Bool
quiet_symbol (Kind k) = quiet_kind k
quiet_symbol (Left left) = is_quiet left

unfoldable quiet_row : Written → Bool
quiet_row row = not (is_quiet row.left) || list_all quiet_symbol row.symbols

rows_quiet : list_all quiet_row row_list ≡ true
unfolding quiet_row row_list has_module_number
rows_quiet = refl

row_quiet : (left : ℕ) (symbols : List Symbol) → quiet_row (record { left = left; symbols = symbols }) ≡ true → is_quiet left ≡ true → list_all quiet_symbol symbols ≡ true
unfolding quiet_row
row_quiet left symbols h q = implied (is_quiet left) (list_all quiet_symbol symbols) h q

mutual
  quiet_tree : (left : ℕ) (t : Tree) → is_quiet left ≡ true → Derives row_list left t → list_all quiet_kind (spelling t) ≡ true
  quiet_tree left (node row parts) q d =
      quiet_parts d.0 parts (row_quiet left d.0 (passes_at quiet_row row_list row (record { left = left; symbols = d.0 }) rows_quiet d.1) q) d.2

  quiet_parts : (symbols : List Symbol) (parts : Parts) → list_all quiet_symbol symbols ≡ true → Fit row_list symbols parts → list_all quiet_kind (spelling_of parts) ≡ true
  quiet_parts [] no_parts h f = refl
  quiet_parts [] (token j parts) h f = absurd f
  quiet_parts [] (subtree t parts) h f = absurd f
  quiet_parts (Kind k ∷ symbols) no_parts h f = absurd f
  quiet_parts (Kind k ∷ symbols) (token j parts) h f =
      let p = and_parts (quiet_kind k) (list_all quiet_symbol symbols) h in
      and_from (quiet_kind j) (list_all quiet_kind (spelling_of parts)) (ap quiet_kind f.0 ∙ p.0) (quiet_parts symbols parts p.1 f.1)
  quiet_parts (Kind k ∷ symbols) (subtree t parts) h f = absurd f
  quiet_parts (Left left ∷ symbols) no_parts h f = absurd f
  quiet_parts (Left left ∷ symbols) (token j parts) h f = absurd f
  quiet_parts (Left left ∷ symbols) (subtree t parts) h f =
      let p = and_parts (is_quiet left) (list_all quiet_symbol symbols) h in
      list_all-append quiet_kind (spelling t) (spelling_of parts)
      ∙ and_from (list_all quiet_kind (spelling t)) (list_all quiet_kind (spelling_of parts)) (quiet_tree left t p.0 f.0) (quiet_parts symbols parts p.1 f.1)

quiet_words : (k : ℕ) (ws : List Word) → list_all quiet_kind (map kind_of_word ws) ≡ true → all_bear k ws ≡ true
quiet_words k [] h = refl
quiet_words k (w ∷ ws) h =
    let p = and_parts (quiet_kind (kind_of_word w)) (list_all quiet_kind (map kind_of_word ws)) h in
    and_from (bears k w) (all_bear k ws)
    (or_left (quiet_kind (kind_of_word w)) (nat_eq (module_number (kind_of_word w) w) k) p.0) (quiet_words k ws p.1)

-- the words of a tree of such a nonterminal
pub quiet : (k : ℕ) {left : ℕ} {t : Tree} {ws : List Word} → is_quiet left ≡ true → Writes left t ws → all_bear k ws ≡ true
quiet k {left} {t} {ws} q w = quiet_words k ws (ap (list_all quiet_kind) (sym w.kinds) ∙ quiet_tree left t q w.derived)

-- what is still to be shown of the pieces of a row
abbrev pub Bear : ℕ → List Piece → Type 0
Bear k [] = Unit {0}
Bear k (a_name w ∷ pieces) = Bear k pieces
Bear k (a_word kind w ∷ pieces) = (bears k w ≡ true) × Bear k pieces
Bear k (a_tree left t ws ∷ pieces) = (all_bear k ws ≡ true) × Bear k pieces

above : (kind : ℕ) → nat_lt 32 kind ≡ true → has_module_number kind ≡ false
unfolding has_module_number
above kind h = and_false (nat_le 15 kind) (nat_le kind 32) (grind (arith, nat_tests))

name_bears : (k kind : ℕ) (w : Word) (name : Option Word) → slice_get name_list kind ≡ name → is_name kind w name ≡ true → bears k w ≡ true
name_bears k kind w None there h = no_match h
name_bears k kind w (Some name) there h = plain_bears k kind w (name_is kind w (Some name) there h) (above kind (and_parts (nat_lt 32 kind) _ h).0)

one_more : (k : ℕ) (w : Word) (ws : List Word) → bears k w ≡ true → all_bear k ws ≡ true → all_bear k (w ∷ ws) ≡ true
one_more k w ws a b = and_from (bears k w) (all_bear k ws) a b

-- one word
pub word_bears : (k : ℕ) (w : Word) → bears k w ≡ true → all_bear k (w ∷ []) ≡ true
word_bears k w h = one_more k w [] h refl

pieces_bear : (k : ℕ) (symbols : List Symbol) (pieces : List Piece) → match symbols pieces ≡ true → Bear k pieces → all_bear k (words_of pieces) ≡ true
pieces_bear k [] [] h shown = refl
pieces_bear k [] (piece ∷ pieces) h shown = no_match h
pieces_bear k (Kind j ∷ symbols) [] h shown = no_match h
pieces_bear k (Kind j ∷ symbols) (a_name w ∷ pieces) h shown =
    let p = and_parts (is_name j w (slice_get name_list j)) (match symbols pieces) h in
    one_more k w (words_of pieces) (name_bears k j w (slice_get name_list j) refl p.0) (pieces_bear k symbols pieces p.1 shown)
pieces_bear k (Kind j ∷ symbols) (a_word kind w ∷ pieces) h shown =
    let p = and_parts (nat_eq kind j) (match symbols pieces) h in
    one_more k w (words_of pieces) shown.0 (pieces_bear k symbols pieces p.1 shown.1)
pieces_bear k (Kind j ∷ symbols) (a_tree left t ws ∷ pieces) h shown = no_match h
pieces_bear k (Left left ∷ symbols) [] h shown = no_match h
pieces_bear k (Left left ∷ symbols) (a_name w ∷ pieces) h shown = no_match h
pieces_bear k (Left left ∷ symbols) (a_word kind w ∷ pieces) h shown = no_match h
pieces_bear k (Left left ∷ symbols) (a_tree x t ws ∷ pieces) h shown =
    let p = and_parts (nat_eq x left) (match symbols pieces) h in
    both_bear k ws (words_of pieces) shown.0 (pieces_bear k symbols pieces p.1 shown.1)

-- the words of a row
pub row_bears : (k left row : ℕ) (p : Pieces) → fits left (flat p) (slice_get row_list row) ≡ true → Bear k (flat p) → all_bear k (words p) ≡ true
row_bears k left row p h shown = by_row (slice_get row_list row) h
  where
    by_row : (found : Option Written) → fits left (flat p) found ≡ true → all_bear k (words p) ≡ true
    by_row None f = no_match f
    by_row (Some r) f =
        let q = and_parts (nat_eq left r.left) (match r.symbols (flat p)) f in
        ap (all_bear k) (sym (flat_same p)) ∙ pieces_bear k r.symbols (flat p) q.1 shown
