-- What is left to read, and the ways to complete it.
use Rattle.std.specs.Prelude.{ℕ, ◌≡◌, List, ◌∷◌, ◌++◌}
use Rattle.predict.specs.declared.symbol.Symbol.{Symbol}
use Rattle.predict.specs.declared.tree.ParseNode.{ParseNode}
use Rattle.predict.specs.Rules.{Rules, nonterminal_count}
use Rattle.predict.specs.Tree.{Tree, Parts, spelling_of, nodes, nodes_of}
use Rattle.predict.specs.Sentence.{ArePartsOf, IsSentenceOf, first}

-- the node of a tree with this row
abbrev pub node_of : Rules → ℕ → ParseNode
node_of rules row = record { row = row; children = nonterminal_count (rules.symbols row) }

-- What is left to read spells these kinds to its end. With the nodes so far, there are then all these nodes.
pub record Completes (rules : Rules) (symbols : List Symbol) (so_far : List ParseNode) (kinds : List ℕ) (all : List ParseNode) : Type 0 where
  pub parts : Parts
  pub derived : ArePartsOf rules symbols parts rules.end_kind
  pub spelled : spelling_of parts ≡ kinds
  pub gathered : so_far ++ nodes_of parts ≡ all

-- Where this kind comes next, both are completed by the same kinds, and give the same nodes.
abbrev pub AreAlike : Rules → ℕ → List Symbol → List ParseNode → List Symbol → List ParseNode → Type 0
AreAlike rules next symbols so_far symbols' so_far' =
    (kinds : List ℕ) (all : List ParseNode) → first kinds rules.end_kind ≡ next →
    (Completes rules symbols so_far kinds all → Completes rules symbols' so_far' kinds all) × (Completes rules symbols' so_far' kinds all → Completes rules symbols so_far kinds all)

-- What completes the first behind this kind completes the second, and gives the same nodes; and the other way round.
abbrev pub Takes : Rules → ℕ → List Symbol → List ParseNode → List Symbol → List ParseNode → Type 0
Takes rules k symbols so_far symbols' so_far' =
    (kinds : List ℕ) (all : List ParseNode) →
    (Completes rules symbols so_far (k ∷ kinds) all → Completes rules symbols' so_far' kinds all) × (Completes rules symbols' so_far' kinds all → Completes rules symbols so_far (k ∷ kinds) all)

-- Nothing that begins with this kind completes what is left.
abbrev pub Refuses : Rules → ℕ → List Symbol → List ParseNode → Type 0
Refuses rules k symbols so_far = (kinds : List ℕ) (all : List ParseNode) → ¬ Completes rules symbols so_far (k ∷ kinds) all

-- A sentence, and the nodes of its tree.
pub record IsWhole (rules : Rules) (kinds : List ℕ) (all : List ParseNode) : Type 0 where
  pub whole : Tree
  pub sentence : IsSentenceOf rules whole kinds
  pub listed : nodes whole ≡ all

-- After the kinds that are done, what completes what is left completes a sentence, and what completes a sentence completes what is left.
pub record Reads (rules : Rules) (done : List ℕ) (symbols : List Symbol) (so_far : List ParseNode) : Type 0 where
  pub forth : (kinds : List ℕ) (all : List ParseNode) → Completes rules symbols so_far kinds all → IsWhole rules (done ++ kinds) all
  pub back : (kinds : List ℕ) (all : List ParseNode) → IsWhole rules (done ++ kinds) all → Completes rules symbols so_far kinds all
