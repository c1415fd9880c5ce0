-- Words by the pieces of the row that spells them, and the tree that they make.
use Rattle.std.proofs.Common.{◌≡◌, ℕ, List, [], ◌∷◌, ◌++◌, refl, ap, sym, ◌∙◌, Option, Some, None, eqb-true, append_assoc, subst, arith, ◌+◌}
use Rattle.std.specs.Prelude.{Bool, true, false, ◌&&◌, nat_eq, nat_lt, map, slice_get}
use Rattle.std.specs.List.{list_all}
use Rattle.std.specs.Str.{bytes_eq}
use Rattle.std.proofs.lemmas.Bool.{and_parts, and_from, both_ways}
use Rattle.std.proofs.lemmas.List.{map-append, append-nil}
use Rattle.std.proofs.lemmas.List.Folds.{list_all-append}
use Rattle.std.proofs.lemmas.Slice.Eq.{bytes_eq-Decides}
use Rattle.predict.specs.declared.symbol.Symbol.{Symbol}
use Rattle.predict.specs.declared.symbol.Symbol.TheVariants.{Kind, Left}
use Rattle.predict.specs.Tree.{Tree, Parts, node, no_parts, token, subtree, spelling, spelling_of}
use Rattle.predict.specs.FirstFit.{Written}
use Rattle.predict.proofs.Lists.{implied, each_told}
use Rattle.c_tree.specs.Words.{Word, template}
use Rattle.c_law_words.specs.Standing.{is_alone}
use Rattle.c_law_words.specs.Kinds.{kind_of_word}
use Rattle.c_law_words.proofs.Derived.{Derives, Fit}
use Rattle.c_law_words.proofs.Listed.{row_list, name_list, name_alone, names_alone}

-- a word of this kind that stands for itself
pub record IsWord (kind : ℕ) (w : Word) : Type 0 where
  pub alone : is_alone w ≡ true
  pub kind_is : kind_of_word w ≡ kind

-- A tree of the nonterminal spells the words.
pub record Writes (left : ℕ) (t : Tree) (words : List Word) : Type 0 where
  pub derived : Derives row_list left t
  pub kinds : spelling t ≡ map kind_of_word words
  pub alone : list_all is_alone words ≡ true

infixl 20 ◌⋄◌
-- what a row spells
pub data Pieces : Type 0 where
  -- words that the row names
  fixed : List Word → Pieces
  -- a word of this kind
  named : ℕ → Word → Pieces
  -- a tree of this nonterminal, and the words that it spells
  part : ℕ → Tree → List Word → Pieces
  ◌⋄◌ : Pieces → Pieces → Pieces

-- the words of a line that the row names
abbrev pub line : List ℕ → Pieces
line text = fixed (template text)

abbrev pub words : Pieces → List Word
words (fixed ws) = ws
words (named kind w) = w ∷ []
words (part left t ws) = ws
words (a ⋄ b) = words a ++ words b

-- one piece
pub data Piece : Type 0 where
  a_name : Word → Piece
  a_word : ℕ → Word → Piece
  a_tree : ℕ → Tree → List Word → Piece

abbrev pub flat : Pieces → List Piece
flat (fixed ws) = map a_name ws
flat (named kind w) = a_word kind w ∷ []
flat (part left t ws) = a_tree left t ws ∷ []
flat (a ⋄ b) = flat a ++ flat b

abbrev pub words_of : List Piece → List Word
words_of [] = []
words_of (a_name w ∷ pieces) = w ∷ words_of pieces
words_of (a_word kind w ∷ pieces) = w ∷ words_of pieces
words_of (a_tree left t ws ∷ pieces) = ws ++ words_of pieces

abbrev pub parts_of : List Symbol → List Piece → Parts
parts_of [] pieces = no_parts
parts_of (Kind k ∷ symbols) [] = no_parts
parts_of (Kind k ∷ symbols) (a_name w ∷ pieces) = token k (parts_of symbols pieces)
parts_of (Kind k ∷ symbols) (a_word kind w ∷ pieces) = token k (parts_of symbols pieces)
parts_of (Kind k ∷ symbols) (a_tree left t ws ∷ pieces) = no_parts
parts_of (Left left ∷ symbols) [] = no_parts
parts_of (Left left ∷ symbols) (a_name w ∷ pieces) = no_parts
parts_of (Left left ∷ symbols) (a_word kind w ∷ pieces) = no_parts
parts_of (Left left ∷ symbols) (a_tree x t ws ∷ pieces) = subtree t (parts_of symbols pieces)

-- what is still to be shown of pieces that match a row
abbrev pub Shown : List Piece → Type 0
Shown [] = Unit {0}
Shown (a_name w ∷ pieces) = Shown pieces
Shown (a_word kind w ∷ pieces) = IsWord kind w × Shown pieces
Shown (a_tree left t ws ∷ pieces) = Writes left t ws × Shown pieces

infixr 10 ◌▹◌
-- what is shown of one piece, and of those behind it
abbrev pub ◌▹◌ : {A B : Type 0} → A → B → A × B
a ▹ b = (a, b)

-- the name of a kind of one token
abbrev pub is_name : ℕ → Word → Option Word → Bool
is_name k w None = false
is_name k w (Some name) = nat_lt 32 k && bytes_eq w name

-- the pieces match the symbols
abbrev pub match : List Symbol → List Piece → Bool
match [] [] = true
match [] (piece ∷ pieces) = false
match (Kind k ∷ symbols) [] = false
match (Kind k ∷ symbols) (a_name w ∷ pieces) = is_name k w (slice_get name_list k) && match symbols pieces
match (Kind k ∷ symbols) (a_word kind w ∷ pieces) = nat_eq kind k && match symbols pieces
match (Kind k ∷ symbols) (a_tree left t ws ∷ pieces) = false
match (Left left ∷ symbols) [] = false
match (Left left ∷ symbols) (a_name w ∷ pieces) = false
match (Left left ∷ symbols) (a_word kind w ∷ pieces) = false
match (Left left ∷ symbols) (a_tree x t ws ∷ pieces) = nat_eq x left && match symbols pieces

-- the row, if it is there, is one of the nonterminal and matches the pieces
abbrev pub fits : ℕ → List Piece → Option Written → Bool
fits left pieces None = false
fits left pieces (Some row) = nat_eq left row.left && match row.symbols pieces

abbrev pub symbols_in : Option Written → List Symbol
symbols_in None = []
symbols_in (Some row) = row.symbols

-- the tree of a row whose pieces these are
abbrev pub row_tree : ℕ → Pieces → Tree
row_tree row pieces = node row (parts_of (symbols_in (slice_get row_list row)) (flat pieces))

pub name_is : (k : ℕ) (w : Word) (name : Option Word) → slice_get name_list k ≡ name → is_name k w name ≡ true → IsWord k w
unfolding name_alone
name_is k w None there h = absurd (both_ways false refl h)
name_is k w (Some name) there h =
    let p = and_parts (nat_lt 32 k) (bytes_eq w name) h in
    let same : w ≡ name = (bytes_eq-Decides w name).0 p.1 in
    let told = implied (nat_lt 32 k) (is_alone name && nat_eq (kind_of_word name) k) (each_told name_alone 0 name_list k k name names_alone there (omega arith)) p.0 in
    let q = and_parts (is_alone name) (nat_eq (kind_of_word name) k) told in
    record { alone = ap is_alone same ∙ q.0; kind_is = ap kind_of_word same ∙ eqb-true (kind_of_word name) k q.1 }

flat_words : (p : Pieces) (behind : List Piece) → words_of (flat p ++ behind) ≡ words p ++ words_of behind
flat_words (fixed ws) behind = names ws
  where
    names : (xs : List Word) → words_of (map a_name xs ++ behind) ≡ xs ++ words_of behind
    names [] = refl
    names (x ∷ xs) = ap (λ l. x ∷ l) (names xs)
flat_words (named kind w) behind = refl
flat_words (part left t ws) behind = refl
flat_words (a ⋄ b) behind =
    ap words_of (append_assoc (flat a) (flat b) behind) ∙ flat_words a (flat b ++ behind)
    ∙ ap (λ l. words a ++ l) (flat_words b behind) ∙ sym (append_assoc (words a) (words b) (words_of behind))

-- and none behind them
pub flat_same : (p : Pieces) → words_of (flat p) ≡ words p
flat_same p = ap words_of (sym (append-nil (flat p))) ∙ flat_words p [] ∙ append-nil (words p)

-- what parts of some symbols spell
record PartsWritten (symbols : List Symbol) (parts : Parts) (ws : List Word) : Type 0 where
  fit : Fit row_list symbols parts
  kinds : spelling_of parts ≡ map kind_of_word ws
  alone : list_all is_alone ws ≡ true

word_written : (k : ℕ) (w : Word) (symbols : List Symbol) (parts : Parts) (ws : List Word) → IsWord k w → PartsWritten symbols parts ws
    → PartsWritten (Kind k ∷ symbols) (token k parts) (w ∷ ws)
word_written k w symbols parts ws word rest =
    record {
      fit = (refl, rest.fit);
      kinds = λ i. (sym word.kind_is) i ∷ rest.kinds i;
      alone = and_from (is_alone w) (list_all is_alone ws) word.alone rest.alone;
    }

tree_written : (left : ℕ) (t : Tree) (symbols : List Symbol) (parts : Parts) (us ws : List Word) → Writes left t us → PartsWritten symbols parts ws
    → PartsWritten (Left left ∷ symbols) (subtree t parts) (us ++ ws)
tree_written left t symbols parts us ws tree rest =
    record {
      fit = (tree.derived, rest.fit);
      kinds = ap (λ l. l ++ spelling_of parts) tree.kinds ∙ ap (λ l. map kind_of_word us ++ l) rest.kinds ∙ sym (map-append kind_of_word us ws);
      alone = list_all-append is_alone us ws ∙ and_from (list_all is_alone us) (list_all is_alone ws) tree.alone rest.alone;
    }

pub no_match : {A : Type 0} → false ≡ true → A
no_match h = absurd (both_ways false refl h)

pieces_written : (symbols : List Symbol) (pieces : List Piece) → match symbols pieces ≡ true → Shown pieces → PartsWritten symbols (parts_of symbols pieces) (words_of pieces)
pieces_written [] [] h shown = record { fit = tt; kinds = refl; alone = refl }
pieces_written [] (piece ∷ pieces) h shown = no_match h
pieces_written (Kind k ∷ symbols) [] h shown = no_match h
pieces_written (Kind k ∷ symbols) (a_name w ∷ pieces) h shown =
    let p = and_parts (is_name k w (slice_get name_list k)) (match symbols pieces) h in
    word_written k w symbols _ _ (name_is k w (slice_get name_list k) refl p.0) (pieces_written symbols pieces p.1 shown)
pieces_written (Kind k ∷ symbols) (a_word kind w ∷ pieces) h shown =
    let p = and_parts (nat_eq kind k) (match symbols pieces) h in
    word_written k w symbols _ _ (subst (λ n. IsWord n w) (eqb-true kind k p.0) shown.0) (pieces_written symbols pieces p.1 shown.1)
pieces_written (Kind k ∷ symbols) (a_tree left t ws ∷ pieces) h shown = no_match h
pieces_written (Left left ∷ symbols) [] h shown = no_match h
pieces_written (Left left ∷ symbols) (a_name w ∷ pieces) h shown = no_match h
pieces_written (Left left ∷ symbols) (a_word kind w ∷ pieces) h shown = no_match h
pieces_written (Left left ∷ symbols) (a_tree x t ws ∷ pieces) h shown =
    let p = and_parts (nat_eq x left) (match symbols pieces) h in
    tree_written left t symbols _ ws _ (subst (λ n. Writes n t ws) (eqb-true x left p.0) shown.0) (pieces_written symbols pieces p.1 shown.1)

-- A row of the nonterminal whose pieces are spelled is spelled.
pub row_written : (left row : ℕ) (p : Pieces) → fits left (flat p) (slice_get row_list row) ≡ true → Shown (flat p) → Writes left (row_tree row p) (words p)
row_written left row p h shown = by_row (slice_get row_list row) refl h
  where
    by_row : (found : Option Written) → slice_get row_list row ≡ found → fits left (flat p) found ≡ true → Writes left (node row (parts_of (symbols_in found) (flat p))) (words p)
    by_row None there f = no_match f
    by_row (Some r) there f =
        let q = and_parts (nat_eq left r.left) (match r.symbols (flat p)) f in
        let w = pieces_written r.symbols (flat p) q.1 shown in
        let same = flat_same p in
        record {
          derived = (r.symbols, there ∙ ap (λ n. let row_of : Written = record { left = n; symbols = r.symbols } in Some row_of) (sym (eqb-true left r.left q.0)), w.fit);
          kinds = w.kinds ∙ ap (map kind_of_word) same;
          alone = ap (list_all is_alone) (sym same) ∙ w.alone;
        }
