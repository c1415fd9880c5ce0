-- The trees that are read from the nodes of a parse tree are that tree alone.
use Rattle.std.specs.Prelude.{ℕ, ◌≡◌, List, [], ◌∷◌, ◌++◌, get_or, refl}
use Rattle.std.proofs.Common.{ap, sym, ◌∙◌}
use Rattle.predict.specs.declared.symbol.Symbol.{Symbol}
use Rattle.predict.specs.declared.symbol.Symbol.TheVariants.{Kind, Left}
use Rattle.predict.specs.declared.tree.ParseNode.{ParseNode}
use Rattle.predict.specs.Rules.{IsRow}
use Rattle.predict.specs.Sentence.{IsTreeOf, ArePartsOf, first}
use Rattle.predict.specs.Tree.{Tree, Parts, node, no_parts, token, subtree, spelling_of, nodes, nodes_of}
use Rattle.c_syntax.specs.grammar.Sets.{c_rules}
use Rattle.c_syntax.proofs.Tables.{row_numbers, symbols_of_numbers}
use Rattle.c_tree.specs.Raw.{RawFile}
use Rattle.c_tree.specs.declared.token.CToken.{CToken}
use Rattle.c_tree.specs.tokens.Tokens.{CTokens, c_tokens_of}
use Rattle.c_syntax.specs.Syntax.{IsSpelled}
use Rattle.c_raw_build.specs.RawFiles.{file}
use Rattle.c_raw_build.specs.RawOf.{raw_of, IsRawOf}
use Rattle.c_raw_build.specs.Reading.{row_symbols, first_tree, later_trees, parts_from, trees_behind, trees_of}

-- the symbols of a row that some nonterminal gives way to
pub symbols_are : (row : ℕ) → IsRow c_rules row → row_symbols row ≡ c_rules.symbols row
unfolding row_symbols
symbols_are row is = symbols_of_numbers (get_or row_numbers row []) row refl is

appended : (l m n : List ParseNode) → (l ++ m) ++ n ≡ l ++ (m ++ n)
appended [] m n = refl
appended (x ∷ l) m n = ap (λ (r : List ParseNode). x ∷ r) (appended l m n)

-- the parts of a row, and the trees behind them, from the trees that begin with the row's subtrees
record PartsRead (symbols : List Symbol) (parts : Parts) (rest : List ParseNode) : Type 0 where
  parts_are : parts_from symbols (trees_of (nodes_of parts ++ rest)) ≡ parts
  behind_are : trees_behind symbols (trees_of (nodes_of parts ++ rest)) ≡ trees_of rest

mutual
  pub tree_read : (left : ℕ) (t : Tree) (next : ℕ) (rest : List ParseNode) → IsTreeOf c_rules left t next → trees_of (nodes t ++ rest) ≡ t ∷ trees_of rest
  tree_read left (node row parts) next rest is =
      let ts : List Tree = trees_of (nodes_of parts ++ rest) in
      let symbols : row_symbols row ≡ c_rules.symbols row = symbols_are row (left, first (spelling_of parts) next, is.0) in
      let read : PartsRead (c_rules.symbols row) parts rest = parts_read (c_rules.symbols row) parts next rest is.1 in
      ap (λ (s : List Symbol). node row (parts_from s ts) ∷ trees_behind s ts) symbols ∙ (λ j. node row (read.parts_are j) ∷ read.behind_are j)

  parts_read : (symbols : List Symbol) (parts : Parts) (next : ℕ) (rest : List ParseNode) → ArePartsOf c_rules symbols parts next → PartsRead symbols parts rest
  parts_read [] no_parts next rest are = record { parts_are = refl; behind_are = refl }
  parts_read (Kind k ∷ symbols) (token j parts) next rest are =
      let read : PartsRead symbols parts rest = parts_read symbols parts next rest are.1 in
      record { parts_are = λ i. token (sym are.0 i) (read.parts_are i); behind_are = read.behind_are }
  parts_read (Left left ∷ symbols) (subtree t parts) next rest are =
      let behind : List ParseNode = nodes_of parts ++ rest in
      let whole : trees_of ((nodes t ++ nodes_of parts) ++ rest) ≡ t ∷ trees_of behind = ap trees_of (appended (nodes t) (nodes_of parts) rest) ∙ tree_read left t (first (spelling_of parts) next) behind are.0 in
      let read : PartsRead symbols parts rest = parts_read symbols parts next rest are.1 in
      record {
        parts_are = ap (λ (ts : List Tree). subtree (first_tree ts) (parts_from symbols (later_trees ts))) whole ∙ ap (λ (p : Parts). subtree t p) read.parts_are;
        behind_are = ap (λ (ts : List Tree). trees_behind symbols (later_trees ts)) whole ∙ read.behind_are;
      }
  parts_read [] (token j parts) next rest are = absurd are
  parts_read [] (subtree t parts) next rest are = absurd are
  parts_read (Kind k ∷ symbols) no_parts next rest are = absurd are
  parts_read (Kind k ∷ symbols) (subtree t parts) next rest are = absurd are
  parts_read (Left left ∷ symbols) no_parts next rest are = absurd are
  parts_read (Left left ∷ symbols) (token j parts) next rest are = absurd are

nothing_behind : (l : List ParseNode) → l ≡ l ++ []
nothing_behind [] = refl
nothing_behind (x ∷ l) = ap (λ (r : List ParseNode). x ∷ r) (nothing_behind l)

-- the first tree that is read from the nodes of a tree
pub first_read : (left : ℕ) (t : Tree) (next : ℕ) → IsTreeOf c_rules left t next → first_tree (trees_of (nodes t)) ≡ t
first_read left t next is = ap (λ l. first_tree (trees_of l)) (nothing_behind (nodes t)) ∙ ap first_tree (tree_read left t next [] is)

-- what was read of the nodes is the raw tree of the text
pub raw_read : (bytes : List ℕ) (tokens : List CToken) (parsed : List ParseNode) (raw : RawFile) → IsSpelled bytes tokens parsed
    → raw ≡ file (record { bytes = bytes; tokens = tokens }) (record { at = 0; tree = first_tree (trees_of parsed) }) → IsRawOf bytes raw
raw_read bytes tokens parsed raw s v t is =
    let tree : Tree = s.parsed.tree in
    let same : t ≡ tree = s.parsed.only t is in
    let front : first_tree (trees_of parsed) ≡ tree = ap (λ l. first_tree (trees_of l)) s.parsed.listed ∙ first_read c_rules.start tree c_rules.end_kind s.parsed.sentence.2.derived in
    let tokens_are : (c_tokens_of bytes).tokens ≡ tokens = ap (λ (all : CTokens). all.tokens) s.all in
    (λ j. raw_of bytes (tokens_are j) (same j)) ∙ (λ j. file (record { bytes = bytes; tokens = tokens }) (record { at = 0; tree = sym front j })) ∙ sym v
