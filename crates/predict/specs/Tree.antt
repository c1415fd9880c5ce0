-- Trees of rows, and their nodes in pre-order.
use Rattle.std.specs.Prelude.{ℕ, ◌+◌, List, [], ◌∷◌, ◌++◌}
use Rattle.predict.specs.declared.tree.ParseNode.{ParseNode}

mutual
  -- a row, and a part for each of its symbols
  pub data Tree : Type 0 where
    node : ℕ → Parts → Tree

  -- a token of a kind, or a tree for a nonterminal, and the parts after it
  pub data Parts : Type 0 where
    no_parts : Parts
    token : ℕ → Parts → Parts
    subtree : Tree → Parts → Parts

abbrev mutual
  -- the kinds of a tree, from left to right
  pub spelling : Tree → List ℕ
  spelling (node row parts) = spelling_of parts

  -- the kinds of parts, from left to right
  pub spelling_of : Parts → List ℕ
  spelling_of no_parts = []
  spelling_of (token k parts) = k ∷ spelling_of parts
  spelling_of (subtree t parts) = spelling t ++ spelling_of parts

-- how many of the parts are trees
abbrev pub tree_count : Parts → ℕ
tree_count no_parts = 0
tree_count (token k parts) = tree_count parts
tree_count (subtree t parts) = tree_count parts + 1

abbrev mutual
  -- the nodes of a tree in pre-order, each with how many trees stand directly below it
  pub nodes : Tree → List ParseNode
  nodes (node row parts) = record { row = row; children = tree_count parts } ∷ nodes_of parts

  -- those of the trees among the parts, one tree after the other
  pub nodes_of : Parts → List ParseNode
  nodes_of no_parts = []
  nodes_of (token k parts) = nodes_of parts
  nodes_of (subtree t parts) = nodes t ++ nodes_of parts
