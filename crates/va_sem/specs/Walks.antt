-- The statements in a statement, and what some of them hold.
use Rattle.std.specs.Prelude.{ℕ, List, [], ◌∷◌, ◌++◌, Some}
use Rattle.va_tree.specs.declared.name.NameAt.{NameAt}
use Rattle.va_tree.specs.declared.module.Declaration.{Declaration}
use Rattle.va_tree.specs.declared.stmt.EventKind.TheVariants.{InitialStep, FinalStep}
use Rattle.va_tree.specs.Statements.{Statement, Statements, Items, Defaults, null, block, only_if, if_else, cases, for_loop, while_loop, repeat_loop, event, assign, contribute, task, no_more, statement_then, no_items, item_then, no_defaults, default_then}

abbrev mutual
  -- a statement and those in it, each before those in it
  pub statements_in : Statement → List Statement
  statements_in (null at) = null at ∷ []
  statements_in (block at label declarations body) = block at label declarations body ∷ in_statements body
  statements_in (only_if at test a) = only_if at test a ∷ statements_in a
  statements_in (if_else at test a b) = if_else at test a b ∷ statements_in a ++ statements_in b
  statements_in (cases at selector items defaults) = cases at selector items defaults ∷ in_items items ++ in_defaults defaults
  statements_in (for_loop at target first test target' step body) = for_loop at target first test target' step body ∷ statements_in body
  statements_in (while_loop at test body) = while_loop at test body ∷ statements_in body
  statements_in (repeat_loop at count body) = repeat_loop at count body ∷ statements_in body
  statements_in (event at kind analyses body) = event at kind analyses body ∷ statements_in body
  statements_in (assign at target value) = assign at target value ∷ []
  statements_in (contribute at access first second value) = contribute at access first second value ∷ []
  statements_in (task at bytes args) = task at bytes args ∷ []

  pub in_statements : Statements → List Statement
  in_statements no_more = []
  in_statements (statement_then s rest) = statements_in s ++ in_statements rest

  pub in_items : Items → List Statement
  in_items no_items = []
  in_items (item_then at values body rest) = statements_in body ++ in_items rest

  pub in_defaults : Defaults → List Statement
  in_defaults no_defaults = []
  in_defaults (default_then at body rest) = statements_in body ++ in_defaults rest

-- the label of a block
abbrev pub label_of : Statement → List NameAt
label_of (block at (Some label) declarations body) = label ∷ []
label_of other = []

-- the declarations of a block
abbrev pub block_declarations : Statement → List Declaration
block_declarations (block at label declarations body) = declarations
block_declarations other = []

-- the tokens of the words `default` of a `case` (Case statements)
abbrev pub default_tokens : Defaults → List ℕ
default_tokens no_defaults = []
default_tokens (default_then at body rest) = at ∷ default_tokens rest

abbrev pub defaults_of_case : Statement → List ℕ
defaults_of_case (cases at selector items defaults) = default_tokens defaults
defaults_of_case other = []

abbrev mutual
  -- a statement without the statements that wait for the final step, which have no effect (Events)
  pub in_effect : Statement → Statement
  in_effect (null at) = null at
  in_effect (block at label declarations body) = block at label declarations (statements_in_effect body)
  in_effect (only_if at test a) = only_if at test (in_effect a)
  in_effect (if_else at test a b) = if_else at test (in_effect a) (in_effect b)
  in_effect (cases at selector items defaults) = cases at selector (items_in_effect items) (defaults_in_effect defaults)
  in_effect (for_loop at target first test target' step body) = for_loop at target first test target' step (in_effect body)
  in_effect (while_loop at test body) = while_loop at test (in_effect body)
  in_effect (repeat_loop at count body) = repeat_loop at count (in_effect body)
  in_effect (event at InitialStep analyses body) = event at InitialStep analyses (in_effect body)
  in_effect (event at FinalStep analyses body) = null at
  in_effect (assign at target value) = assign at target value
  in_effect (contribute at access first second value) = contribute at access first second value
  in_effect (task at bytes args) = task at bytes args

  pub statements_in_effect : Statements → Statements
  statements_in_effect no_more = no_more
  statements_in_effect (statement_then s rest) = statement_then (in_effect s) (statements_in_effect rest)

  pub items_in_effect : Items → Items
  items_in_effect no_items = no_items
  items_in_effect (item_then at values body rest) = item_then at values (in_effect body) (items_in_effect rest)

  pub defaults_in_effect : Defaults → Defaults
  defaults_in_effect no_defaults = no_defaults
  defaults_in_effect (default_then at body rest) = default_then at (in_effect body) (defaults_in_effect rest)
