-- How statements are read, the parts before their inner statements first: definitions that the contracts of this crate's own functions
-- cite. No public contract names them.
use Rattle.std.specs.Prelude.{ℕ, ◌≡◌, ◌+◌, ◌<◌, length, List, [], ◌∷◌, Option, Some, None}
use Rattle.predict.specs.Tree.{Tree}
use Rattle.va_base.specs.declared.expanded.Expanded.{Expanded}
use Rattle.va_tree.specs.declared.expr.Expr.{Expr}
use Rattle.va_tree.specs.declared.stmt.Assignment.{Assignment}
use Rattle.va_tree.specs.declared.stmt.CaseItem.{CaseItem}
use Rattle.va_tree.specs.declared.stmt.Stmt.{Stmt}
use Rattle.va_tree.specs.declared.stmt.Stmt.TheVariants.{If, Case, For, While, Repeat, Event}
use Rattle.va_build.specs.Reading.{Ahead, trees, first_tree, later_trees}
use Rattle.va_build.specs.SourceExpressions.{expression}
use Rattle.va_build.specs.SourceStatements.{assignment, statement, else_branch, case_items, case_defaults}
use Rattle.va_build.specs.Width.{width}
use Rattle.va_build.specs.declared.statement_heads.Condition.{Condition}
use Rattle.va_build.specs.declared.statement_heads.Turn.{Turn}
use Rattle.va_build.specs.declared.statement_heads.Turn.TheVariants as turn

-- what a head and the statement behind it are
abbrev pub turn_of : Turn → Stmt → Stmt
turn_of (turn.For at first test step) body = For at first test step body
turn_of (turn.While c) body = While c.at c.value body
turn_of (turn.Repeat c) body = Repeat c.at c.value body
turn_of (turn.Wait at event analyses) body = Event at event analyses body

-- a keyword and an expression in parentheses were read
pub record ReadsCondition (e : Expanded) (before after : Ahead) (c : Condition) : Type 0 where
  pub begins : c.at ≡ before.at
  pub value_is : c.value ≡ expression e (before.at + 2) (first_tree (trees before))
  pub trees_are : trees after ≡ later_trees (trees before)
  pub at_is : after.at ≡ before.at + 2 + width (first_tree (trees before)) + 1
  pub fewer : length after.nodes < length before.nodes

-- a name, a token and an expression were read
pub record ReadsAssignment (e : Expanded) (before after : Ahead) (a : Assignment) : Type 0 where
  pub value_is : a ≡ assignment e before.at (before.at + 2) (first_tree (trees before))
  pub trees_are : trees after ≡ later_trees (trees before)
  pub at_is : after.at ≡ before.at + 2 + width (first_tree (trees before))
  pub fewer : length after.nodes < length before.nodes

-- The next tree is this statement, of which one subtree and so many tokens behind it are left to read.
pub record OneLeft (e : Expanded) (before after : Ahead) (tokens : ℕ) (whole : Stmt) : Type 0 where
  pub value_is : whole ≡ statement e before.at (first_tree (trees before))
  pub trees_are : later_trees (trees after) ≡ later_trees (trees before)
  pub at_is : after.at + width (first_tree (trees after)) + tokens ≡ before.at + width (first_tree (trees before))
  pub fewer : length after.nodes < length before.nodes

-- the same, with two subtrees left and no token
pub record TwoLeft (e : Expanded) (before after : Ahead) (whole : Stmt) : Type 0 where
  pub value_is : whole ≡ statement e before.at (first_tree (trees before))
  pub trees_are : later_trees (later_trees (trees after)) ≡ later_trees (trees before)
  pub at_is : after.at + width (first_tree (trees after)) + width (first_tree (later_trees (trees after))) ≡ before.at + width (first_tree (trees before))
  pub fewer : length after.nodes < length before.nodes

-- an `if`, of which both statements are left to read
abbrev pub if_of : Expanded → Ahead → Condition → Stmt
if_of e after c = If c.at c.value (statement e after.at (first_tree (trees after))) (else_branch e (after.at + width (first_tree (trees after))) (first_tree (later_trees (trees after))))

-- a `case`, of which the items are left to read
abbrev pub case_of : Expanded → Ahead → Condition → Stmt
case_of e after c = Case c.at c.value (case_items e after.at (first_tree (trees after))) (case_defaults e after.at (first_tree (trees after)))

-- an item of a `case`
abbrev pub item_of : ℕ → List Expr → Stmt → CaseItem
item_of at values body = record { at = at; values = values; body = body }

-- the statement of an `else`, as a list of one or none
abbrev pub listed : Option Stmt → List Stmt
listed None = []
listed (Some s) = s ∷ []

abbrev pub else_statements : Expanded → ℕ → Tree → List Stmt
else_statements e at t = listed (else_branch e at t)
