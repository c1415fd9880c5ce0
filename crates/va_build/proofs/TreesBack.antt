-- From the nodes of a parse tree back to the tree.
use Rattle.std.specs.Prelude.{◌≡◌, ℕ, zero, suc, List, [], ◌∷◌, ◌++◌, map, refl}
use Rattle.std.proofs.Common.{ap, sym, ◌∙◌, subst, append_assoc}
use Rattle.predict.specs.declared.symbol.Symbol.{Symbol}
use Rattle.predict.specs.declared.symbol.Symbol.TheVariants.{Kind, Left}
use Rattle.predict.specs.declared.tree.ParseNode.{ParseNode}
use Rattle.predict.specs.Sentence.{IsTreeOf, ArePartsOf, IsParsed, first}
use Rattle.predict.specs.Table.{symbols_of}
use Rattle.predict.specs.Tree.{Tree, Parts, node, no_parts, token, subtree, nodes, nodes_of, spelling_of}
use Rattle.predict.specs.FirstFit.{Written}
use Rattle.va_build.specs.Reading.{row_symbols, symbols_at, trees_of, parts_from, trees_behind, first_tree, later_trees}
use Rattle.va_grammar.specs.Rows.{rows}
use Rattle.predict.specs.Sets.{Sets, with_kinds}
use Rattle.va_grammar.specs.Sets.{va_rules, va_sets}
use Rattle.va_build.proofs.TakenRows.{nothing_behind}

symbols_kept : (sets : Sets) (all : List Written) (i : ℕ) → symbols_at all i ≡ symbols_of (map (with_kinds sets) all) i
symbols_kept sets [] i = refl
symbols_kept sets (row ∷ all) zero = refl
symbols_kept sets (row ∷ all) (suc i) = symbols_kept sets all i

same_symbols : (row : ℕ) → row_symbols row ≡ va_rules.symbols row
unfolding row_symbols va_rules
same_symbols row = symbols_kept va_sets rows row

-- the parts and the trees behind them are what was written
pub record Back (symbols : List Symbol) (parts : Parts) (ts rest : List Tree) : Type 0 where
  pub parts_are : parts_from symbols ts ≡ parts
  pub behind : trees_behind symbols ts ≡ rest

mutual
  tree_back : (left : ℕ) (t : Tree) (next : ℕ) (rest : List ParseNode) → IsTreeOf va_rules left t next → trees_of (nodes t ++ rest) ≡ t ∷ trees_of rest
  tree_back left (node row parts) next rest d =
      let ts : List Tree = trees_of (nodes_of parts ++ rest) in
      let p = parts_back (va_rules.symbols row) parts next rest d.1 in
      subst (λ (s : List Symbol). node row (parts_from s ts) ∷ trees_behind s ts ≡ node row parts ∷ trees_of rest) (sym (same_symbols row)) (λ j. node row (p.parts_are j) ∷ p.behind j)

  parts_back : (symbols : List Symbol) (parts : Parts) (next : ℕ) (rest : List ParseNode) → ArePartsOf va_rules symbols parts next → Back symbols parts (trees_of (nodes_of parts ++ rest)) (trees_of rest)
  parts_back [] no_parts next rest d = record { parts_are = refl; behind = refl }
  parts_back (Kind k ∷ symbols) (token j parts) next rest d =
      let p = parts_back symbols parts next rest d.1 in
      record { parts_are = λ i. token (sym d.0 i) (p.parts_are i); behind = p.behind }
  parts_back (Left left ∷ symbols) (subtree t parts) next rest d =
      let ts : List Tree = trees_of (nodes_of parts ++ rest) in
      let q : trees_of ((nodes t ++ nodes_of parts) ++ rest) ≡ t ∷ ts = ap trees_of (append_assoc (nodes t) (nodes_of parts) rest) ∙ tree_back left t (first (spelling_of parts) next) (nodes_of parts ++ rest) d.0 in
      let p = parts_back symbols parts next rest d.1 in
      record {
        parts_are = ap (λ (l : List Tree). subtree (first_tree l) (parts_from symbols (later_trees l))) q ∙ (λ i. subtree t (p.parts_are i));
        behind = ap (λ (l : List Tree). trees_behind symbols (later_trees l)) q ∙ p.behind;
      }
  parts_back [] (token j parts) next rest d = absurd d
  parts_back [] (subtree t parts) next rest d = absurd d
  parts_back (Kind k ∷ symbols) no_parts next rest d = absurd d
  parts_back (Kind k ∷ symbols) (subtree t parts) next rest d = absurd d
  parts_back (Left left ∷ symbols) no_parts next rest d = absurd d
  parts_back (Left left ∷ symbols) (token j parts) next rest d = absurd d

-- the nodes of a parse tree are read as that tree
pub parsed_back : (kinds : List ℕ) (all : List ParseNode) (p : IsParsed va_rules kinds all) → trees_of all ≡ p.tree ∷ []
parsed_back kinds all p = ap trees_of (p.listed ∙ nothing_behind (nodes p.tree)) ∙ tree_back va_rules.start p.tree va_rules.end_kind [] p.sentence.2.derived
