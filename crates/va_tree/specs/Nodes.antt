-- The nodes of a tree with their depths: the depth of a node is the number of statements, expressions and parentheses around
-- it and itself. A string is no node, nor are the two assignments in the head of a `for`.
use Rattle.std.specs.Prelude.{ℕ, ◌+◌, List, [], ◌∷◌, ◌++◌, flat_map}
use Rattle.va_tree.specs.declared.source.Source.{Source}
use Rattle.va_tree.specs.Expressions.{Expression, Arguments, literal, infinity, name, group, unary, binary, choose, call, no_more, text_then, expression_then}
use Rattle.va_tree.specs.Declarations.{declared}
use Rattle.va_tree.specs.Statements.{Statement, Statements, Items, Defaults, null, block, only_if, if_else, cases, for_loop, while_loop, repeat_loop, event, assign, contribute, task, no_more as no_statement, statement_then, no_items, item_then, no_defaults, default_then}
use Rattle.va_tree.specs.Parts.{Part, expression, statement, parts_of}

-- a node: the index of its first token, and its depth
pub record Node : Type 0 where
  pub at : ℕ
  pub depth : ℕ

abbrev pub node : ℕ → ℕ → Node
node at depth = record { at = at; depth = depth }

abbrev mutual
  -- of an expression of some depth
  pub nodes_of : ℕ → Expression → List Node
  nodes_of depth (literal at value integer) = node at depth ∷ []
  nodes_of depth (infinity at) = node at depth ∷ []
  nodes_of depth (name at bytes) = node at depth ∷ []
  nodes_of depth (group at inner) = node at depth ∷ nodes_of (depth + 1) inner
  nodes_of depth (unary at op operand) = node at depth ∷ nodes_of (depth + 1) operand
  nodes_of depth (binary at left op right) = node at depth ∷ nodes_of (depth + 1) left ++ nodes_of (depth + 1) right
  nodes_of depth (choose at test a b) = node at depth ∷ nodes_of (depth + 1) test ++ nodes_of (depth + 1) a ++ nodes_of (depth + 1) b
  nodes_of depth (call at callee bytes args) = node at depth ∷ nodes_of_arguments (depth + 1) args

  pub nodes_of_arguments : ℕ → Arguments → List Node
  nodes_of_arguments depth no_more = []
  nodes_of_arguments depth (text_then text rest) = nodes_of_arguments depth rest
  nodes_of_arguments depth (expression_then e rest) = nodes_of depth e ++ nodes_of_arguments depth rest

abbrev mutual
  -- of a statement of some depth
  pub nodes_of_statement : ℕ → Statement → List Node
  nodes_of_statement depth (null at) = node at depth ∷ []
  nodes_of_statement depth (block at label declarations body) = node at depth ∷ flat_map (nodes_of (depth + 1)) (declared declarations) ++ nodes_of_statements (depth + 1) body
  nodes_of_statement depth (only_if at test a) = node at depth ∷ nodes_of (depth + 1) test ++ nodes_of_statement (depth + 1) a
  nodes_of_statement depth (if_else at test a b) = node at depth ∷ nodes_of (depth + 1) test ++ nodes_of_statement (depth + 1) a ++ nodes_of_statement (depth + 1) b
  nodes_of_statement depth (cases at selector items defaults) = node at depth ∷ nodes_of (depth + 1) selector ++ nodes_of_items (depth + 1) items ++ nodes_of_defaults (depth + 1) defaults
  nodes_of_statement depth (for_loop at target first test target' step body) = node at depth ∷ nodes_of (depth + 1) first ++ nodes_of (depth + 1) test ++ nodes_of (depth + 1) step ++ nodes_of_statement (depth + 1) body
  nodes_of_statement depth (while_loop at test body) = node at depth ∷ nodes_of (depth + 1) test ++ nodes_of_statement (depth + 1) body
  nodes_of_statement depth (repeat_loop at count body) = node at depth ∷ nodes_of (depth + 1) count ++ nodes_of_statement (depth + 1) body
  nodes_of_statement depth (event at kind analyses body) = node at depth ∷ nodes_of_statement (depth + 1) body
  nodes_of_statement depth (assign at target value) = node at depth ∷ nodes_of (depth + 1) value
  nodes_of_statement depth (contribute at access first second value) = node at depth ∷ nodes_of (depth + 1) value
  nodes_of_statement depth (task at bytes args) = node at depth ∷ nodes_of_arguments (depth + 1) args

  pub nodes_of_statements : ℕ → Statements → List Node
  nodes_of_statements depth no_statement = []
  nodes_of_statements depth (statement_then s rest) = nodes_of_statement depth s ++ nodes_of_statements depth rest

  pub nodes_of_items : ℕ → Items → List Node
  nodes_of_items depth no_items = []
  nodes_of_items depth (item_then at values body rest) = flat_map (nodes_of depth) values ++ nodes_of_statement depth body ++ nodes_of_items depth rest

  pub nodes_of_defaults : ℕ → Defaults → List Node
  nodes_of_defaults depth no_defaults = []
  nodes_of_defaults depth (default_then at body rest) = nodes_of_statement depth body ++ nodes_of_defaults depth rest

-- an outermost statement or expression has depth 1
abbrev pub nodes_of_part : Part → List Node
nodes_of_part (expression e) = nodes_of 1 e
nodes_of_part (statement s) = nodes_of_statement 1 s

-- the nodes of a whole text
abbrev pub nodes_of_source : Source → List Node
nodes_of_source s = flat_map nodes_of_part (parts_of s)
