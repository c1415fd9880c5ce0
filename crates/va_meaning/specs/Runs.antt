-- What a statement does, over any algebra (Analog procedural block).
use Rattle.std.specs.Prelude.{ℕ, ◌+◌, ◌==◌, Bool, true, false, ◌||◌, ℤ, pos, ◌-ℤ◌, int_lt, if◌then◌else◌, List, [], ◌∷◌, ◌++◌, Option, Some, length, flat_map}
use Rattle.alg_laws.specs.declared.number.Number.{Number}
use Rattle.alg_laws.specs.declared.number.Reason.TheVariants.{Turns}
use Rattle.alg_laws.specs.Loop.{turns, while_turns}
use Rattle.alg_laws.specs.NumberOps.{to_real, to_integer, converted, is_true, is_same}
use Rattle.alg_laws.specs.Outcome.{Outcome, gives, ◌>>=◌}
use Rattle.va_sem.specs.declared.names.Meaning.{Meaning}
use Rattle.va_sem.specs.declared.names.Meaning.TheVariants.{Var, Access}
use Rattle.va_tree.specs.declared.source.Quantity.{Quantity}
use Rattle.va_tree.specs.declared.source.Quantity.TheVariants.{Potential, Flow}
use Rattle.va_tree.specs.declared.stmt.EventKind.TheVariants.{InitialStep, FinalStep}
use Rattle.va_tree.specs.Declarations.{declared}
use Rattle.va_tree.specs.Expressions.{Expression}
use Rattle.va_tree.specs.Preorder.{expressions_in, expressions_of_statement, expressions_of_items}
use Rattle.va_tree.specs.Statements.{Statement, Statements, Items, Defaults, null, block, only_if, if_else, cases, for_loop, while_loop, repeat_loop, event, assign, contribute, task, no_more, statement_then, no_items, item_then, no_defaults, default_then}
use Rattle.va_meaning.specs.Elaborated.{Elaborated}
use Rattle.va_meaning.specs.Points.{Context, with_variable, State, held_of, told}
use Rattle.va_meaning.specs.Unknowns.{signed}
use Rattle.va_meaning.specs.Values.{Functions, size, value_of}

-- how many places some expressions have in the pre-order, and those of a statement
abbrev pub sizes : List Expression → ℕ
sizes es = length (flat_map expressions_in es)

abbrev pub statement_size : Statement → ℕ
statement_size s = length (expressions_of_statement s)

abbrev pub items_size : Items → ℕ
items_size items = length (expressions_of_items items)

abbrev pub quantity_of : Bool → Quantity
quantity_of true = Flow
quantity_of false = Potential

-- The mark of a branch after a contribution: a potential sets it, a flow takes it away where no condition over the statement
-- is biased, and else leaves it.
abbrev pub marked : Quantity → Bool → Bool → Bool
marked Potential biased mark = true
marked Flow biased mark = if biased then mark else false

-- whether a condition over a statement is biased, if this one stands over it too
abbrev pub under : Elaborated → Bool → Expression → Bool
under M biased condition = biased || M.is_biased condition

-- and if all these do
abbrev pub under_all : Elaborated → Bool → List Expression → Bool
under_all M biased [] = biased
under_all M biased (condition ∷ rest) = under_all M (under M biased condition) rest

-- the values of the items of a `case`, which stand over all its statements
abbrev pub item_values : Items → List Expression
item_values no_items = []
item_values (item_then at values body rest) = values ++ item_values rest

-- a loop that counts: how many turns are left
pub record Counted (S : Type 0) : Type 0 where
  pub left : ℤ
  pub state : S

abbrev pub turns_left : {S : Type 0} → Counted S → Bool
turns_left at = int_lt (pos 0) at.left

abbrev pub count_down : {E S : Type 0} → (S → Outcome E S) → Counted S → Outcome E (Counted S)
count_down turn at = do
  next ← turn at.state
  gives (record { left = at.left -ℤ pos 1; state = next })

-- `repeat`: as many turns as the count says, none where it is below 1, and at most n (Looping statements)
abbrev pub repeated : {E S : Type 0} → E → ℕ → ℤ → (S → Outcome E S) → S → Outcome E S
repeated too_many n count turn s = do
  last ← turns too_many gives turns_left (count_down turn) n (record { left = count; state = s })
  gives last.state

module _ {E V : Type 0} (M : Elaborated) (c : Context E V) (F : Functions E V) where
  -- whether a test holds
  abbrev pub test_of : ℕ → Expression → State V → Outcome E Bool
  test_of place e s = value_of M c F place e s.variables >>= λ v. gives (is_true c.ops v)

  -- A value is assigned to what a name means, converted to its type.
  abbrev pub assigned : Option Meaning → Number V → State V → Outcome E (State V)
  assigned (Some (Var x)) v s = do
    w ← told c (converted c.ops (M.variable_type x) v)
    gives (record s { variables = with_variable s.variables x w })
  assigned m v s = gives s

  abbrev pub assign_value : Option Meaning → ℕ → Expression → State V → Outcome E (State V)
  assign_value m place e s = value_of M c F place e s.variables >>= λ v. assigned m v s

  -- A value is contributed to a quantity of a branch (Contribution statements): it is added to what the branch holds of this
  -- quantity, and what it holds of the other one is discarded.
  abbrev pub contributed_to : ℕ → Quantity → Bool → V → State V → State V
  contributed_to b quantity biased x s = record s {
    held = λ a. if a == b then record { quantity = quantity; sum = c.ops.sum (held_of c.ops quantity (s.held a)) x } else s.held a;
    marks = λ a. if a == b then marked quantity biased (s.marks a) else s.marks a;
  }

  abbrev pub contributed : Option Meaning → Bool → Number V → State V → State V
  contributed (Some (Access b turned flow)) biased v s = contributed_to b (quantity_of flow) biased (signed c.ops turned (to_real c.ops v)) s
  contributed m biased v s = s

  -- whether a value is the same as one of some expressions', asked in order up to the first that is
  abbrev pub is_among : ℕ → List Expression → Number V → State V → Outcome E Bool
  is_among place [] v s = gives false
  is_among place (e ∷ es) v s = do
    w ← value_of M c F place e s.variables
    if is_same c.ops v w then gives true else is_among (place + size e) es v s

  abbrev mutual
    -- What a statement does, by whether a condition over it is biased, and by the place of its first expression. A block's
    -- variables were set before the evaluation. A loop makes at most as many turns as the bound says at each entry.
    pub run : Bool → ℕ → Statement → State V → Outcome E (State V)
    run biased place (null at) s = gives s
    run biased place (block at label declarations body) s = run_all biased (place + sizes (declared declarations)) body s
    run biased place (only_if at test a) s = do
      holds ← test_of place test s
      if holds then run (under M biased test) (place + size test) a s else gives s
    run biased place (if_else at test a b) s = do
      holds ← test_of place test s
      if holds then run (under M biased test) (place + size test) a s else run (under M biased test) (place + size test + statement_size a) b s
    run biased place (cases at selector items defaults) s = do
      v ← value_of M c F place selector s.variables
      run_case (under_all M biased (selector ∷ item_values items)) (place + size selector) v items (run_default (under_all M biased (selector ∷ item_values items)) (place + size selector + items_size items) defaults) s
    run biased place (for_loop at target first test target' step body) s = do
      begun ← assign_value (M.meaning target.at) place first s
      while_turns (c.stops Turns) (test_of (place + size first) test) (λ t. run (under M biased test) (place + size first + size test + size step) body t >>= assign_value (M.meaning target'.at) (place + size first + size test) step) c.bound begun
    run biased place (while_loop at test body) s =
        while_turns (c.stops Turns) (test_of place test) (run (under M biased test) (place + size test) body) c.bound s
    run biased place (repeat_loop at count body) s = do
      v ← value_of M c F place count s.variables
      k ← told c (to_integer c.ops v)
      repeated (c.stops Turns) c.bound k (run (under M biased count) (place + size count) body) s
    run biased place (event at InitialStep analyses body) s = run biased place body s
    run biased place (event at FinalStep analyses body) s = gives s
    run biased place (assign at target value) s = assign_value (M.meaning at) place value s
    run biased place (contribute at access first second value) s = do
      v ← value_of M c F place value s.variables
      gives (contributed (M.meaning at) biased v s)
    run biased place (task at bytes args) s = gives s

    -- one statement after the other
    pub run_all : Bool → ℕ → Statements → State V → Outcome E (State V)
    run_all biased place no_more s = gives s
    run_all biased place (statement_then first rest) s = run biased place first s >>= run_all biased (place + statement_size first) rest

    -- the first item that has the value, else what the default does
    pub run_case : Bool → ℕ → Number V → Items → (State V → Outcome E (State V)) → State V → Outcome E (State V)
    run_case biased place v no_items otherwise s = otherwise s
    run_case biased place v (item_then at values body rest) otherwise s = do
      chosen ← is_among place values v s
      if chosen then run biased (place + sizes values) body s else run_case biased (place + sizes values + statement_size body) v rest otherwise s

    pub run_default : Bool → ℕ → Defaults → State V → Outcome E (State V)
    run_default biased place no_defaults s = gives s
    run_default biased place (default_then at body rest) s = run biased place body s
