-- The values that statements ask for: of which expressions, what for, and what stands over them (Analog procedural block).
use Rattle.std.specs.Prelude.{ℕ, Bool, true, false, List, [], ◌∷◌, ◌++◌, map, flat_map, if◌then◌else◌}
use Rattle.va_tree.specs.declared.stmt.EventKind.{EventKind}
use Rattle.va_tree.specs.declared.stmt.EventKind.TheVariants.{InitialStep, FinalStep}
use Rattle.va_tree.specs.Declarations.{declared}
use Rattle.va_tree.specs.Expressions.{Expression}
use Rattle.va_sem.specs.LookedAt.{looked_at}
use Rattle.va_tree.specs.Statements.{Statement, Statements, Items, Defaults, null, block, only_if, if_else, cases, for_loop, while_loop, repeat_loop, event, assign, contribute, task, no_more, statement_then, no_items, item_then, no_defaults, default_then}

-- what a value is for
pub data Purpose : Type 0 where
  -- it is assigned to the variable that is named at a token
  assigned : ℕ → Purpose
  -- it is contributed by the access at a token
  contributed : ℕ → Purpose
  -- it is a condition, a selector, an item of a `case`, or a count
  tested : Purpose
  -- it is the initialiser of a variable of a block
  initial : Purpose

-- the conditions around a statement, and whether it is in a loop
pub record Around : Type 0 where
  pub conditions : List Expression
  pub in_loop : Bool

-- a value that a statement asks for
pub record Value : Type 0 where
  pub purpose : Purpose
  pub expression : Expression
  pub around : Around

abbrev pub value_for : Around → Purpose → Expression → Value
value_for around purpose e = record { purpose = purpose; expression = e; around = around }

-- under these conditions, too
abbrev pub under : List Expression → Around → Around
under conditions around = record around { conditions = conditions ++ around.conditions }

-- in a loop with this condition
abbrev pub looped : Expression → Around → Around
looped test around = record { conditions = test ∷ around.conditions; in_loop = true }

-- the values of a `case`'s items
abbrev pub tests_of : Items → List Expression
tests_of no_items = []
tests_of (item_then at values body rest) = values ++ tests_of rest

-- `@(final_step)` has no effect (Events)
abbrev pub is_evaluated : EventKind → Bool
is_evaluated InitialStep = true
is_evaluated FinalStep = false

-- Conditions stand over what is inside: all items of a `case` stand over each of its arms, and the condition of a `for` over
-- both assignments of its head (Conditional statements, Case statements, Looping statements). Tasks evaluate nothing, since
-- their arguments are not looked at.
abbrev mutual
  pub values_in : Around → Statement → List Value
  values_in around (null at) = []
  values_in around (block at label declarations body) = map (value_for around initial) (declared declarations) ++ values_in_statements around body
  values_in around (only_if at test a) = value_for around tested test ∷ values_in (under (test ∷ []) around) a
  values_in around (if_else at test a b) = value_for around tested test ∷ values_in (under (test ∷ []) around) a ++ values_in (under (test ∷ []) around) b
  values_in around (cases at selector items defaults) =
      let tests = selector ∷ tests_of items in
      map (value_for around tested) tests ++ values_in_items (under tests around) items ++ values_in_defaults (under tests around) defaults
  values_in around (for_loop at target first test target' step body) =
      let inside = looped test around in
      value_for around tested test ∷ value_for inside (assigned target.at) first ∷ value_for inside (assigned target'.at) step ∷ values_in inside body
  values_in around (while_loop at test body) = value_for around tested test ∷ values_in (looped test around) body
  values_in around (repeat_loop at count body) = value_for around tested count ∷ values_in (looped count around) body
  values_in around (event at kind analyses body) = if is_evaluated kind then values_in around body else []
  values_in around (assign at target value) = value_for around (assigned at) value ∷ []
  values_in around (contribute at access first second value) = value_for around (contributed at) value ∷ []
  values_in around (task at bytes args) = []

  pub values_in_statements : Around → Statements → List Value
  values_in_statements around no_more = []
  values_in_statements around (statement_then s rest) = values_in around s ++ values_in_statements around rest

  pub values_in_items : Around → Items → List Value
  values_in_items around no_items = []
  values_in_items around (item_then at values body rest) = values_in around body ++ values_in_items around rest

  pub values_in_defaults : Around → Defaults → List Value
  values_in_defaults around no_defaults = []
  values_in_defaults around (default_then at body rest) = values_in around body ++ values_in_defaults around rest

-- all expressions that are evaluated, at any depth
abbrev pub evaluated : List Value → List Expression
evaluated = flat_map (λ (v : Value). looked_at v.expression)

-- with nothing around them
abbrev pub values_of : List Statement → List Value
values_of = flat_map (values_in (record { conditions = []; in_loop = false }))
