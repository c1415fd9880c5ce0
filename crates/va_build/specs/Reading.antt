-- How trees are read from their nodes, row by row: definitions that the contracts of this crate's own functions cite. No public
-- contract names them.
use Rattle.std.specs.Prelude.{ℕ, Bool, true, false, zero, suc, ◌≡◌, ◌+◌, ◌<◌, ◌≤◌, List, [], ◌∷◌, length}
use Rattle.predict.specs.declared.symbol.Symbol.{Symbol}
use Rattle.predict.specs.declared.symbol.Symbol.TheVariants.{Kind, Left}
use Rattle.predict.specs.declared.tree.ParseNode.{ParseNode}
use Rattle.predict.specs.Tree.{Tree, Parts, node, no_parts, token, subtree}
use Rattle.predict.specs.FirstFit.{Written}
use Rattle.va_grammar.specs.Rows.{rows}
use Rattle.va_build.specs.TokensAt.{unary_op, binary_op}
use Rattle.va_build.specs.declared.operators.OperandRow.{OperandRow}
use Rattle.va_build.specs.declared.operators.OperandRow.TheVariants.{Operands, Sign, Unsigned}
use Rattle.va_build.specs.declared.operators.TailRow.{TailRow}
use Rattle.va_build.specs.declared.operators.TailRow.TheVariants.{Operator, End}
use Rattle.va_build.specs.Width.{width}

-- the symbols of the row with this number, among some rows
abbrev pub symbols_at : List Written → ℕ → List Symbol
symbols_at [] i = []
symbols_at (row ∷ more) zero = row.symbols
symbols_at (row ∷ more) (suc i) = symbols_at more i

-- the symbols of the row with this number
unfoldable pub row_symbols : ℕ → List Symbol
row_symbols = symbols_at rows

-- the first of some trees
abbrev pub first_tree : List Tree → Tree
first_tree [] = node 0 no_parts
first_tree (t ∷ ts) = t

-- the trees behind the first
abbrev pub later_trees : List Tree → List Tree
later_trees [] = []
later_trees (t ∷ ts) = ts

-- the parts of a row with these symbols, where its subtrees are the first of some trees
abbrev pub parts_from : List Symbol → List Tree → Parts
parts_from [] ts = no_parts
parts_from (Kind k ∷ symbols) ts = token k (parts_from symbols ts)
parts_from (Left left ∷ symbols) ts = subtree (first_tree ts) (parts_from symbols (later_trees ts))

-- the trees behind those
abbrev pub trees_behind : List Symbol → List Tree → List Tree
trees_behind [] ts = ts
trees_behind (Kind k ∷ symbols) ts = trees_behind symbols ts
trees_behind (Left left ∷ symbols) ts = trees_behind symbols (later_trees ts)

-- the trees whose nodes these are, one tree after the other
abbrev pub trees_of : List ParseNode → List Tree
trees_of [] = []
trees_of (n ∷ nodes) = node n.row (parts_from (row_symbols n.row) (trees_of nodes)) ∷ trees_behind (row_symbols n.row) (trees_of nodes)

-- what is left to read: the nodes, and the index of the next token
pub record Ahead : Type 0 where
  pub nodes : List ParseNode
  pub at : ℕ

-- the trees that are left to read
abbrev pub trees : Ahead → List Tree
trees a = trees_of a.nodes

-- the next node was taken, of this row; the trees below it come next
pub record TakesRow (before after : Ahead) (row : ℕ) : Type 0 where
  pub trees_are : trees before ≡ node row (parts_from (row_symbols row) (trees after)) ∷ trees_behind (row_symbols row) (trees after)
  pub at_is : after.at ≡ before.at
  pub fewer : length after.nodes < length before.nodes

-- the next node was taken, and its row has no symbols; or, where this isn't so, nothing was taken
abbrev pub TakesEnd : Bool → Ahead → Ahead → Type 0
TakesEnd true before after = (row : ℕ) × (row_symbols row ≡ []) × TakesRow before after row
TakesEnd false before after = after ≡ before

-- the next token was passed, of this index
pub record TakesToken (before after : Ahead) (index : ℕ) : Type 0 where
  pub index_is : index ≡ before.at
  pub at_is : after.at ≡ before.at + 1
  pub nodes_are : after.nodes ≡ before.nodes

-- the next tree was read, and is this
pub record Reads {X : Type 0} (meaning : ℕ → Tree → X) (before after : Ahead) (value : X) : Type 0 where
  pub value_is : value ≡ meaning before.at (first_tree (trees before))
  pub trees_are : trees after ≡ later_trees (trees before)
  pub at_is : after.at ≡ before.at + width (first_tree (trees before))
  pub fewer : length after.nodes < length before.nodes

-- A list of trees is being read: what is left means, with what was read, what it all meant before.
pub record ReadsOn {X : Type 0} (rest all : ℕ → Tree → X) (before now : Ahead) : Type 0 where
  pub value_is : rest now.at (first_tree (trees now)) ≡ all before.at (first_tree (trees before))
  pub trees_are : later_trees (trees now) ≡ later_trees (trees before)
  pub at_is : now.at + width (first_tree (trees now)) ≡ before.at + width (first_tree (trees before))
  pub fewer : length now.nodes ≤ length before.nodes

-- the symbols of a row of operands: two subtrees; a sign and its operand; or one subtree
abbrev pub IsOperandRow : ℕ → OperandRow → Type 0
IsOperandRow row Operands = (a b : ℕ) × (row_symbols row ≡ Left a ∷ Left b ∷ [])
IsOperandRow row (Sign op) = (k a : ℕ) × (row_symbols row ≡ Kind k ∷ Left a ∷ []) × (unary_op k ≡ op)
IsOperandRow row Unsigned = (a : ℕ) × (row_symbols row ≡ Left a ∷ [])

-- the symbols of a row of a tail: an operator, its right operand and the rest; or nothing
abbrev pub IsTailRow : ℕ → TailRow → Type 0
IsTailRow row (Operator op) = (k a b : ℕ) × (row_symbols row ≡ Kind k ∷ Left a ∷ Left b ∷ []) × (binary_op k ≡ op)
IsTailRow row End = row_symbols row ≡ []
