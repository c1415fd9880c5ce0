-- The trees of the nodes of a derived tree, and what the tree of a whole text holds.
use Rattle.std.specs.Prelude.{◌≡◌, ℕ, List, [], ◌∷◌, ◌++◌, Option, refl, map, flat_map, slice_get}
use Rattle.std.proofs.Common.{ap, sym, ◌∙◌, subst, append_assoc}
use Rattle.predict.specs.declared.symbol.Symbol.{Symbol}
use Rattle.predict.specs.declared.symbol.Symbol.TheVariants.{Kind, Left}
use Rattle.predict.specs.declared.tree.ParseNode.{ParseNode}
use Rattle.predict.specs.Sentence.{IsTreeOf, ArePartsOf, IsParsed}
use Rattle.predict.specs.Tree.{Tree, Parts, node, no_parts, token, subtree, nodes, nodes_of}
use Rattle.va_base.specs.declared.expanded.Expanded.{Expanded}
use Rattle.va_grammar.specs.Kinds.{kinds_of}
use Rattle.va_build.specs.Reading.{row_symbols, parts_from, first_tree, trees_behind, trees_of}
use Rattle.va_grammar.specs.Sets.{va_rules}
use Rattle.va_build.specs.SizeDeep.{earlier, first_deep, nodes_from, deep_parts}
use Rattle.va_build.specs.SizeRows.{deep_in, modules_in, name_index}
use Rattle.va_build.specs.SourceOf.{source_of, IsSourceOf}
use Rattle.va_build.proofs.SizeAlgebra.{earlier_assoc, parts_append}
use Rattle.va_build.proofs.SizeDerived.{symbols_same}
use Rattle.va_tree.specs.Nodes.{Node, nodes_of_part, nodes_of_source}
use Rattle.va_tree.specs.Parts.{Part, expression, statement, nature_parts, discipline_parts, module_parts}
use Rattle.va_tree.specs.declared.source.Source.{Source}

-- the parts of a row from its symbols and the trees behind
abbrev AreFrom : List Symbol → Parts → List ParseNode → Type 0
AreFrom symbols parts rest = (parts_from symbols (trees_of (nodes_of parts ++ rest)) ≡ parts) × (trees_behind symbols (trees_of (nodes_of parts ++ rest)) ≡ trees_of rest)

mutual
  pub trees_nodes : (l : ℕ) (t : Tree) (next : ℕ) (rest : List ParseNode) → IsTreeOf va_rules l t next → trees_of (nodes t ++ rest) ≡ t ∷ trees_of rest
  trees_nodes l (node row parts) next rest h =
      let p : AreFrom (row_symbols row) parts rest = subst (λ (symbols : List Symbol). AreFrom symbols parts rest) (sym (symbols_same row)) (parts_nodes (va_rules.symbols row) parts next rest h.1) in
      (λ j. node row (p.0 j) ∷ p.1 j)

  parts_nodes : (symbols : List Symbol) (parts : Parts) (next : ℕ) (rest : List ParseNode) → ArePartsOf va_rules symbols parts next → AreFrom symbols parts rest
  parts_nodes [] no_parts next rest h = (refl, refl)
  parts_nodes (Kind k ∷ symbols) (token j parts) next rest h =
      let p = parts_nodes symbols parts next rest h.1 in
      ((λ i. token (sym h.0 i) (p.0 i)), p.1)
  parts_nodes (Left l ∷ symbols) (subtree t parts) next rest h =
      let p = parts_nodes symbols parts next rest h.1 in
      let here : trees_of ((nodes t ++ nodes_of parts) ++ rest) ≡ t ∷ trees_of (nodes_of parts ++ rest) = ap trees_of (append_assoc (nodes t) (nodes_of parts) rest) ∙ trees_nodes l t _ (nodes_of parts ++ rest) h.0 in
      (ap (parts_from (Left l ∷ symbols)) here ∙ ap (subtree t) p.0, ap (trees_behind (Left l ∷ symbols)) here ∙ p.1)
  parts_nodes [] (token j parts) next rest h = absurd h
  parts_nodes [] (subtree t parts) next rest h = absurd h
  parts_nodes (Kind k ∷ symbols) no_parts next rest h = absurd h
  parts_nodes (Kind k ∷ symbols) (subtree t parts) next rest h = absurd h
  parts_nodes (Left l ∷ symbols) no_parts next rest h = absurd h
  parts_nodes (Left l ∷ symbols) (token j parts) next rest h = absurd h

no_more : (xs : List ParseNode) → xs ≡ xs ++ []
no_more [] = refl
no_more (x ∷ xs) = ap (λ (l : List ParseNode). x ∷ l) (no_more xs)

-- the nodes of a tree alone
pub tree_alone : (l : ℕ) (t : Tree) (next : ℕ) → IsTreeOf va_rules l t next → trees_of (nodes t) ≡ t ∷ []
tree_alone l t next h = ap trees_of (no_more (nodes t)) ∙ trees_nodes l t next [] h

-- an outermost part has the depth 1
outermost : (parts : List Part) → flat_map nodes_of_part parts ≡ flat_map (nodes_from 1) parts
outermost [] = refl
outermost (expression x ∷ parts) = ap (λ (l : List Node). nodes_from 1 (expression x) ++ l) (outermost parts)
outermost (statement s ∷ parts) = ap (λ (l : List Node). nodes_from 1 (statement s) ++ l) (outermost parts)

-- what the tree of a whole text holds
pub text_deep : (e : Expanded) (t : Tree) → deep_in e 0 1 0 t ≡ first_deep (nodes_of_source (source_of e t))
unfolding deep_in
text_deep e t =
    let s : Source = source_of e t in
    let a : List Part = flat_map nature_parts s.natures in
    let b : List Part = flat_map discipline_parts s.disciplines in
    let c : List Part = flat_map module_parts s.modules in
    sym (ap first_deep (outermost ((a ++ b) ++ c)) ∙ parts_append 1 (a ++ b) c ∙ ap (λ (o : Option ℕ). earlier o (deep_parts 1 c)) (parts_append 1 a b) ∙ earlier_assoc (deep_parts 1 a) (deep_parts 1 b) (deep_parts 1 c))

-- the tree of the nodes that the parser gives
pub parsed_tree : (kinds : List ℕ) (all : List ParseNode) (p : IsParsed va_rules kinds all) → trees_of all ≡ p.tree ∷ []
parsed_tree kinds all p = ap trees_of p.listed ∙ tree_alone va_rules.start p.tree va_rules.end_kind p.sentence.2.derived

pub parsed_derived : (kinds : List ℕ) (all nodes : List ParseNode) → IsParsed va_rules kinds all → nodes ≡ all → (next : ℕ) × IsTreeOf va_rules 0 (first_tree (trees_of nodes)) next
unfolding va_rules
parsed_derived kinds all nodes p same = (va_rules.end_kind, subst (λ (t : Tree). IsTreeOf va_rules 0 t va_rules.end_kind) (sym (ap (λ (ns : List ParseNode). first_tree (trees_of ns)) same ∙ ap first_tree (parsed_tree kinds all p))) p.sentence.2.derived)

-- the source is that of the tree
same_source : (e : Expanded) (s : Source) (nodes : List ParseNode) (p : IsParsed va_rules (kinds_of e) nodes) → IsSourceOf e s → source_of e (first_tree (trees_of nodes)) ≡ s
same_source e s nodes p is = ap (λ (ts : List Tree). source_of e (first_tree ts)) (parsed_tree (kinds_of e) nodes p) ∙ sym (is.source ∙ ap (source_of e) (p.only is.tree is.sentence))

pub source_deep : (e : Expanded) (s : Source) (all nodes : List ParseNode) (deep : Option ℕ) → IsParsed va_rules (kinds_of e) all → nodes ≡ all → IsSourceOf e s → deep ≡ deep_in e 0 1 0 (first_tree (trees_of nodes)) → deep ≡ first_deep (nodes_of_source s)
source_deep e s all nodes deep p same is d =
    d ∙ ap (λ (ns : List ParseNode). deep_in e 0 1 0 (first_tree (trees_of ns))) same ∙ text_deep e (first_tree (trees_of all)) ∙ ap (λ (u : Source). first_deep (nodes_of_source u)) (same_source e s all p is)

pub source_names : (e : Expanded) (s : Source) (all nodes : List ParseNode) (extra : Option ℕ) → IsParsed va_rules (kinds_of e) all → nodes ≡ all → IsSourceOf e s → extra ≡ slice_get (modules_in e 0 0 (first_tree (trees_of nodes))) 64 → extra ≡ slice_get (map name_index s.modules) 64
unfolding modules_in
source_names e s all nodes extra p same is d =
    d ∙ ap (λ (ns : List ParseNode). slice_get (modules_in e 0 0 (first_tree (trees_of ns))) 64) same ∙ ap (λ (u : Source). slice_get (map name_index u.modules) 64) (same_source e s all p is)
