-- The expressions that are looked at, in pre-order. Names and system names in the others are resolved, and that is all: they are
-- the arguments of tasks (Simulation control and display tasks), and those of `$limit` after the first. This is the profile's own:
-- in the manual a task's arguments have types and values too.
use Rattle.std.specs.Prelude.{ℕ, ◌+◌, Bool, true, false, List, [], ◌∷◌, ◌++◌, Option, Some, None, flat_map, if◌then◌else◌}
use Rattle.va_tree.specs.declared.expr.Callee.{Callee}
use Rattle.va_tree.specs.declared.expr.Callee.TheVariants.{Function, System}
use Rattle.va_tree.specs.Expressions.{Expression, Arguments, literal, infinity, name, group, unary, binary, choose, call, no_more, text_then, expression_then}
use Rattle.va_tree.specs.Declarations.{declared}
use Rattle.va_tree.specs.Statements.{Statement, Statements, Items, Defaults, null, block, only_if, if_else, cases, for_loop, while_loop, repeat_loop, event, assign, contribute, task, no_more as no_statement, statement_then, no_items, item_then, no_defaults, default_then}
use Rattle.va_sem.specs.declared.builtin.SystemName.{SystemName}
use Rattle.va_sem.specs.declared.builtin.SystemName.TheVariants as system
use Rattle.va_sem.specs.Lookup.{Bytes}
use Rattle.va_sem.specs.Builtins.{system_name_of, argument_looked_at}

-- whether the argument at a place is looked at, after a system name that has this meaning
abbrev pub looks : Option SystemName → ℕ → Bool
looks None place = true
looks (Some system.Task) place = false
looks (Some (system.Function f)) place = argument_looked_at f place

-- whether the argument of a call at a place is looked at
abbrev pub call_looks : Callee → Bytes → ℕ → Bool
call_looks Function bytes place = true
call_looks System bytes place = looks (system_name_of bytes) place

abbrev mutual
  -- an expression that is looked at, and those in it that are
  pub looked_at : Expression → List Expression
  looked_at (literal at value integer) = literal at value integer ∷ []
  looked_at (infinity at) = infinity at ∷ []
  looked_at (name at bytes) = name at bytes ∷ []
  looked_at (group at inner) = group at inner ∷ looked_at inner
  looked_at (unary at op operand) = unary at op operand ∷ looked_at operand
  looked_at (binary at left op right) = binary at left op right ∷ looked_at left ++ looked_at right
  looked_at (choose at test a b) = choose at test a b ∷ looked_at test ++ looked_at a ++ looked_at b
  looked_at (call at callee bytes args) = call at callee bytes args ∷ looked_at_in_arguments (call_looks callee bytes) 0 args

  -- those in arguments, of which the first of the list stands at a place
  pub looked_at_in_arguments : (ℕ → Bool) → ℕ → Arguments → List Expression
  looked_at_in_arguments test place no_more = []
  looked_at_in_arguments test place (text_then text rest) = looked_at_in_arguments test (place + 1) rest
  looked_at_in_arguments test place (expression_then e rest) =
      (if test place then looked_at e else []) ++ looked_at_in_arguments test (place + 1) rest

abbrev mutual
  -- those of a statement, and of the statements in it
  pub looked_at_in_statement : Statement → List Expression
  looked_at_in_statement (null at) = []
  looked_at_in_statement (block at label declarations body) = flat_map looked_at (declared declarations) ++ looked_at_in_statements body
  looked_at_in_statement (only_if at test a) = looked_at test ++ looked_at_in_statement a
  looked_at_in_statement (if_else at test a b) = looked_at test ++ looked_at_in_statement a ++ looked_at_in_statement b
  looked_at_in_statement (cases at selector items defaults) = looked_at selector ++ looked_at_in_items items ++ looked_at_in_defaults defaults
  looked_at_in_statement (for_loop at target first test target' step body) = looked_at first ++ looked_at test ++ looked_at step ++ looked_at_in_statement body
  looked_at_in_statement (while_loop at test body) = looked_at test ++ looked_at_in_statement body
  looked_at_in_statement (repeat_loop at count body) = looked_at count ++ looked_at_in_statement body
  looked_at_in_statement (event at kind analyses body) = looked_at_in_statement body
  looked_at_in_statement (assign at target value) = looked_at value
  looked_at_in_statement (contribute at access first second value) = looked_at value
  looked_at_in_statement (task at bytes args) = []

  pub looked_at_in_statements : Statements → List Expression
  looked_at_in_statements no_statement = []
  looked_at_in_statements (statement_then s rest) = looked_at_in_statement s ++ looked_at_in_statements rest

  pub looked_at_in_items : Items → List Expression
  looked_at_in_items no_items = []
  looked_at_in_items (item_then at values body rest) = flat_map looked_at values ++ looked_at_in_statement body ++ looked_at_in_items rest

  pub looked_at_in_defaults : Defaults → List Expression
  looked_at_in_defaults no_defaults = []
  looked_at_in_defaults (default_then at body rest) = looked_at_in_statement body ++ looked_at_in_defaults rest
