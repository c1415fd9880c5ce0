-- The expressions of a tree in pre-order: each before those in it, and those from left to right. Strings are none.
use Rattle.std.specs.Prelude.{ℕ, Bool, true, false, List, [], ◌∷◌, ◌++◌, flat_map, count_by}
use Rattle.va_tree.specs.Expressions.{Expression, Arguments, literal, infinity, name, group, unary, binary, choose, call, no_more, text_then, expression_then}
use Rattle.va_tree.specs.Declarations.{declared}
use Rattle.va_tree.specs.declared.source.Source.{Source}
use Rattle.va_tree.specs.Parts.{Part, expression, statement, parts_of}
use Rattle.va_tree.specs.Statements.{Statement, Statements, Items, Defaults, null, block, only_if, if_else, cases, for_loop, while_loop, repeat_loop, event, assign, contribute, task, no_more as no_statement, statement_then, no_items, item_then, no_defaults, default_then}

abbrev mutual
  -- an expression and those in it
  pub expressions_in : Expression → List Expression
  expressions_in (literal at value integer) = literal at value integer ∷ []
  expressions_in (infinity at) = infinity at ∷ []
  expressions_in (name at bytes) = name at bytes ∷ []
  expressions_in (group at inner) = group at inner ∷ expressions_in inner
  expressions_in (unary at op operand) = unary at op operand ∷ expressions_in operand
  expressions_in (binary at left op right) = binary at left op right ∷ expressions_in left ++ expressions_in right
  expressions_in (choose at test a b) = choose at test a b ∷ expressions_in test ++ expressions_in a ++ expressions_in b
  expressions_in (call at callee bytes args) = call at callee bytes args ∷ expressions_in_arguments args

  pub expressions_in_arguments : Arguments → List Expression
  expressions_in_arguments no_more = []
  expressions_in_arguments (text_then text rest) = expressions_in_arguments rest
  expressions_in_arguments (expression_then e rest) = expressions_in e ++ expressions_in_arguments rest

abbrev mutual
  -- the expressions of a statement; those of a `case`'s defaults come after all others of that `case`
  pub expressions_of_statement : Statement → List Expression
  expressions_of_statement (null at) = []
  expressions_of_statement (block at label declarations body) = flat_map expressions_in (declared declarations) ++ expressions_of_statements body
  expressions_of_statement (only_if at test a) = expressions_in test ++ expressions_of_statement a
  expressions_of_statement (if_else at test a b) = expressions_in test ++ expressions_of_statement a ++ expressions_of_statement b
  expressions_of_statement (cases at selector items defaults) = expressions_in selector ++ expressions_of_items items ++ expressions_of_defaults defaults
  expressions_of_statement (for_loop at target first test target' step body) = expressions_in first ++ expressions_in test ++ expressions_in step ++ expressions_of_statement body
  expressions_of_statement (while_loop at test body) = expressions_in test ++ expressions_of_statement body
  expressions_of_statement (repeat_loop at count body) = expressions_in count ++ expressions_of_statement body
  expressions_of_statement (event at kind analyses body) = expressions_of_statement body
  expressions_of_statement (assign at target value) = expressions_in value
  expressions_of_statement (contribute at access first second value) = expressions_in value
  expressions_of_statement (task at bytes args) = expressions_in_arguments args

  pub expressions_of_statements : Statements → List Expression
  expressions_of_statements no_statement = []
  expressions_of_statements (statement_then s rest) = expressions_of_statement s ++ expressions_of_statements rest

  pub expressions_of_items : Items → List Expression
  expressions_of_items no_items = []
  expressions_of_items (item_then at values body rest) = flat_map expressions_in values ++ expressions_of_statement body ++ expressions_of_items rest

  pub expressions_of_defaults : Defaults → List Expression
  expressions_of_defaults no_defaults = []
  expressions_of_defaults (default_then at body rest) = expressions_of_statement body ++ expressions_of_defaults rest

-- whether an expression is no parentheses
abbrev pub is_node : Expression → Bool
is_node (literal at value integer) = true
is_node (infinity at) = true
is_node (name at bytes) = true
is_node (group at inner) = false
is_node (unary at op operand) = true
is_node (binary at left op right) = true
is_node (choose at test a b) = true
is_node (call at callee bytes args) = true

-- how many of some expressions are no parentheses
abbrev pub node_count : List Expression → ℕ
node_count = count_by is_node

-- the expressions of an outermost statement or expression
abbrev pub expressions_of_part : Part → List Expression
expressions_of_part (expression e) = expressions_in e
expressions_of_part (statement s) = expressions_of_statement s

-- the expressions of a whole text, in the order of its parts
abbrev pub expressions_of_source : Source → List Expression
expressions_of_source s = flat_map expressions_of_part (parts_of s)
