-- Statements as contracts see them: without boxes and the shapes of lists. Each has the index of its first token.
use Rattle.std.specs.Prelude.{ℕ, List, [], ◌∷◌, Option, Some, None, map}
use Rattle.va_tree.specs.declared.name.NameAt.{NameAt}
use Rattle.va_tree.specs.declared.module.Declaration.{Declaration}
use Rattle.va_tree.specs.declared.stmt.EventKind.{EventKind}
use Rattle.va_tree.specs.declared.stmt.CaseItem.{CaseItem}
use Rattle.va_tree.specs.declared.stmt.CaseDefault.{CaseDefault}
use Rattle.va_tree.specs.declared.stmt.Stmt.{Stmt, Null, Block', If', Case', For', While', Repeat', Event', Assign, Contribute, Task, Row_of-Stmt, end_of-Stmt, more_of-Stmt, Held-Stmt-If-3, None', Some', Row_of-CaseItem, end_of-CaseItem, more_of-CaseItem, Row_of-CaseDefault, end_of-CaseDefault, more_of-CaseDefault}
use Rattle.va_tree.specs.Expressions.{Expression, Arguments, expression_of, arguments_of}

mutual
  -- a statement (Analog procedural block)
  pub data Statement : Type 0 where
    null : ℕ → Statement
    -- the label, the declarations, and the statements
    block : ℕ → Option NameAt → List Declaration → Statements → Statement
    only_if : ℕ → Expression → Statement → Statement
    if_else : ℕ → Expression → Statement → Statement → Statement
    -- the selector, the items, and the defaults
    cases : ℕ → Expression → Items → Defaults → Statement
    -- first assignment, test, assignment after a turn, and the body
    for_loop : ℕ → NameAt → Expression → Expression → NameAt → Expression → Statement → Statement
    while_loop : ℕ → Expression → Statement → Statement
    repeat_loop : ℕ → Expression → Statement → Statement
    -- the event, the strings in its parentheses, and the body
    event : ℕ → EventKind → List NameAt → Statement → Statement
    assign : ℕ → List ℕ → Expression → Statement
    -- the access, its first node or branch, its second node, and the value
    contribute : ℕ → List ℕ → NameAt → Option NameAt → Expression → Statement
    task : ℕ → List ℕ → Arguments → Statement

  -- the statements of a block, in order
  pub data Statements : Type 0 where
    no_more : Statements
    statement_then : Statement → Statements → Statements

  -- the items of a `case`, in order: where each begins, its values, and its statement
  pub data Items : Type 0 where
    no_items : Items
    item_then : ℕ → List Expression → Statement → Items → Items

  -- the defaults of a `case`, in order: where each has its word `default`, and its statement
  pub data Defaults : Type 0 where
    no_defaults : Defaults
    default_then : ℕ → Statement → Defaults → Defaults

-- what a statement of the program is
abbrev mutual
  pub statement_of : Stmt → Statement
  statement_of (Null at) = null at
  statement_of (Block' at label declarations s body) = block at label declarations (statements_in body)
  statement_of (If' at test s (more_of-Stmt a end_of-Stmt) b) = with_else at (expression_of test) (statement_of a) b
  statement_of (Case' at selector s items t defaults) = cases at (expression_of selector) (items_in items) (defaults_in defaults)
  statement_of (For' at first test step s (more_of-Stmt body end_of-Stmt)) = for_loop at first.target (expression_of first.value) (expression_of test) step.target (expression_of step.value) (statement_of body)
  statement_of (While' at test s (more_of-Stmt body end_of-Stmt)) = while_loop at (expression_of test) (statement_of body)
  statement_of (Repeat' at count s (more_of-Stmt body end_of-Stmt)) = repeat_loop at (expression_of count) (statement_of body)
  statement_of (Event' at kind analyses s (more_of-Stmt body end_of-Stmt)) = event at kind analyses (statement_of body)
  statement_of (Assign at target value) = assign at target (expression_of value)
  statement_of (Contribute at access first second value) = contribute at access first second (expression_of value)
  statement_of (Task at bytes args) = task at bytes (arguments_of args)

  pub with_else : ℕ → Expression → Statement → Held-Stmt-If-3 → Statement
  with_else at test a None' = only_if at test a
  with_else at test a (Some' s (more_of-Stmt b end_of-Stmt)) = if_else at test a (statement_of b)

  pub statements_in : {n : _} → Row_of-Stmt n → Statements
  statements_in end_of-Stmt = no_more
  statements_in (more_of-Stmt s rest) = statement_then (statement_of s) (statements_in rest)

  pub items_in : {n : _} → Row_of-CaseItem n → Items
  items_in end_of-CaseItem = no_items
  items_in (more_of-CaseItem at values body rest) = item_then at (map expression_of values) (statement_of body) (items_in rest)

  pub defaults_in : {n : _} → Row_of-CaseDefault n → Defaults
  defaults_in end_of-CaseDefault = no_defaults
  defaults_in (more_of-CaseDefault at body rest) = default_then at (statement_of body) (defaults_in rest)

-- what a list of statements of the program is
abbrev pub statements_of : List Stmt → Statements
statements_of [] = no_more
statements_of (s ∷ rest) = statement_then (statement_of s) (statements_of rest)

-- what a list of items of a `case` is
abbrev pub items_of : List CaseItem → Items
items_of [] = no_items
items_of (item ∷ rest) = item_then item.at (map expression_of item.values) (statement_of item.body) (items_of rest)

-- what a list of defaults of a `case` is
abbrev pub defaults_of : List CaseDefault → Defaults
defaults_of [] = no_defaults
defaults_of (default ∷ rest) = default_then default.at (statement_of default.body) (defaults_of rest)

-- what an `if` is, by whether it has an `else`
abbrev pub if_of : ℕ → Expression → Statement → Option Stmt → Statement
if_of at test a None = only_if at test a
if_of at test a (Some b) = if_else at test a (statement_of b)
