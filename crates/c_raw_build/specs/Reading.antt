-- How trees are read from their nodes, row by row: definitions that the contracts of this crate's own functions cite. No public
-- contract names them.
use Rattle.std.specs.Prelude.{ℕ, ◌≡◌, ◌+◌, ◌<◌, ◌≤◌, List, [], ◌∷◌, length, map, get_or, if◌then◌else◌, Option, Some, None}
use Rattle.predict.specs.declared.symbol.Symbol.{Symbol}
use Rattle.predict.specs.declared.symbol.Symbol.TheVariants.{Kind, Left}
use Rattle.predict.specs.declared.tree.ParseNode.{ParseNode}
use Rattle.predict.specs.Tree.{Tree, Parts, node, no_parts, token, subtree}
use Rattle.c_tree.specs.Raw.{At}
use Rattle.c_syntax.specs.declared.row_tables.TheConstants.{ROWS}
use Rattle.c_syntax.specs.grammar.Choices.{symbol_numbered}
use Rattle.c_raw_build.specs.Placed.{Placed, width, width_of, has_subtree}

-- the symbols of the row with this number
unfoldable pub row_symbols : ℕ → List Symbol
row_symbols row = map symbol_numbered (get_or (map (λ numbers. numbers.now) ROWS) row [])

-- the first of some trees
abbrev pub first_tree : List Tree → Tree
first_tree [] = node 0 no_parts
first_tree (t ∷ ts) = t

-- the trees behind the first
abbrev pub later_trees : List Tree → List Tree
later_trees [] = []
later_trees (t ∷ ts) = ts

-- the parts of a row with these symbols, where its subtrees are the first of some trees
abbrev pub parts_from : List Symbol → List Tree → Parts
parts_from [] ts = no_parts
parts_from (Kind k ∷ symbols) ts = token k (parts_from symbols ts)
parts_from (Left left ∷ symbols) ts = subtree (first_tree ts) (parts_from symbols (later_trees ts))

-- the trees behind those
abbrev pub trees_behind : List Symbol → List Tree → List Tree
trees_behind [] ts = ts
trees_behind (Kind k ∷ symbols) ts = trees_behind symbols ts
trees_behind (Left left ∷ symbols) ts = trees_behind symbols (later_trees ts)

-- the trees whose nodes these are, one tree after the other
abbrev pub trees_of : List ParseNode → List Tree
trees_of [] = []
trees_of (n ∷ nodes) =
    node n.row (parts_from (row_symbols n.row) (trees_of nodes)) ∷ trees_behind (row_symbols n.row) (trees_of nodes)

-- what is left to read: the nodes, and the index of the next token
pub record Ahead : Type 0 where
  pub nodes : List ParseNode
  pub at : ℕ

-- the trees that are left to read
abbrev pub trees : Ahead → List Tree
trees a = trees_of a.nodes

-- the next of them
abbrev pub next_tree : Ahead → Placed
next_tree a = record { at = a.at; tree = first_tree (trees a) }

-- the next node was taken, of this row; the trees below it come next
pub record TakesRow (before after : Ahead) (row : ℕ) : Type 0 where
  pub trees_are : trees before
      ≡ node row (parts_from (row_symbols row) (trees after)) ∷ trees_behind (row_symbols row) (trees after)
  pub at_is : after.at ≡ before.at
  pub fewer : length after.nodes < length before.nodes

-- so many tokens were passed
pub record Passes (before after : Ahead) (count : ℕ) : Type 0 where
  pub at_is : after.at ≡ before.at + count
  pub nodes_are : after.nodes ≡ before.nodes

-- a tree with its place
abbrev pub placed : ℕ → Tree → Placed
placed at t = record { at = at; tree = t }

-- the tree of a row with this number, whose subtrees are the first of some trees
abbrev pub of_row : ℕ → ℕ → Ahead → Placed
of_row at k middle = placed at (node k (parts_from (row_symbols k) (trees middle)))

-- the last subtree among parts whose first token has this index
abbrev pub last_at : ℕ → Parts → Placed
last_at at no_parts = placed at (node 0 no_parts)
last_at at (token k parts) = last_at (at + 1) parts
last_at at (subtree t parts) = if has_subtree parts then last_at (at + width t) parts else placed at t

-- that of a row
abbrev pub last_of_row : ℕ → ℕ → Ahead → Placed
last_of_row at k middle = last_at at (parts_from (row_symbols k) (trees middle))

-- the next tree was read, and is this
pub record Reads {X : Type 0} (meaning : Placed → X) (before after : Ahead) (value : X) : Type 0 where
  pub value_is : value ≡ meaning (next_tree before)
  pub trees_are : trees after ≡ later_trees (trees before)
  pub at_is : after.at ≡ before.at + width (first_tree (trees before))
  pub fewer : length after.nodes < length before.nodes

-- the next tree was passed
abbrev pub Skips : Ahead → Ahead → Type 0
Skips before after = Reads {X = Unit {0}} (λ p. tt {0}) before after (tt {0})

-- A list of trees is being read: what is left means, with what was read, what it all meant before.
pub record ReadsOn {X : Type 0} (rest all : Placed → X) (before now : Ahead) : Type 0 where
  pub value_is : rest (next_tree now) ≡ all (next_tree before)
  pub trees_are : later_trees (trees now) ≡ later_trees (trees before)
  pub at_is : now.at + width (first_tree (trees now)) ≡ before.at + width (first_tree (trees before))
  pub fewer : length now.nodes ≤ length before.nodes

-- Of a row of this number, which was taken before, all parts but the last subtree and what stands behind it were read: they mean
-- this, and the last subtree comes next.
pub record ReadsElement {X : Type 0} (k : ℕ) (meaning : Placed → X) (before after : Ahead) (value : X) : Type 0 where
  pub value_is : value ≡ meaning (of_row before.at k before)
  pub last_at_is : after.at ≡ (last_of_row before.at k before).at
  pub last_tree_is : first_tree (trees after) ≡ (last_of_row before.at k before).tree
  pub trees_are : later_trees (trees after) ≡ trees_behind (row_symbols k) (trees before)
  pub at_is : after.at + width (first_tree (trees after)) ≡ before.at + width_of (parts_from (row_symbols k) (trees before))
  pub fewer : length after.nodes ≤ length before.nodes

-- The next tree was passed, the tree behind it was read and is this, and one more token was passed.
pub record ReadsSecond {X : Type 0} (meaning : Placed → X) (before after : Ahead) (value : X) : Type 0 where
  pub value_is : value ≡ meaning (placed (before.at + width (first_tree (trees before))) (first_tree (later_trees (trees before))))
  pub trees_are : trees after ≡ later_trees (later_trees (trees before))
  pub at_is : after.at ≡ before.at + width (first_tree (trees before)) + width (first_tree (later_trees (trees before))) + 1
  pub fewer : length after.nodes < length before.nodes

-- the module's number in a token with this index, if there is one
abbrev pub number_seen : ℕ → Option ℕ → List (At ℕ)
number_seen at None = []
number_seen at (Some value) = record { at = at; value = value } ∷ []
