-- What expressions and statements call where evaluation looks, and how deep calls of a module's functions are nested (User-defined
-- analog functions).
use Rattle.std.specs.Prelude.{ℕ, zero, suc, ◌+◌, ◌<◌, Bool, true, false, List, [], ◌∷◌, Option, Some, None, length}
use Rattle.std.specs.List.{slice_get}
use Rattle.va_sem.specs.LookedAt.{call_looks}
use Rattle.va_tree.specs.Expressions.{Expression, Arguments, literal, infinity, name, group, unary, binary, choose, call, no_more, text_then, expression_then}
use Rattle.va_tree.specs.Statements.{Statement, Statements, Items, Defaults, null, block, only_if, if_else, cases, for_loop, while_loop, repeat_loop, event, assign, contribute, task, no_more as no_statement, statement_then, no_items, item_then, no_defaults, default_then}
use Rattle.va_meaning.specs.Called.{Called, builtin, system, function, access, none, called}
use Rattle.va_meaning.specs.Elaborated.{Elaborated, Initialiser, Function}

-- if a function of the module is called, P holds of it
abbrev pub IfFunction : (ℕ → Type 0) → Called → Type 0
IfFunction P (function f) = P f
IfFunction P (builtin b) = Unit {0}
IfFunction P (system s) = Unit {0}
IfFunction P (access b turned flow) = Unit {0}
IfFunction P none = Unit {0}

-- what is said of an argument, if it is looked at
abbrev pub IfLookedAt : Bool → Type 0 → Type 0
IfLookedAt true P = P
IfLookedAt false P = Unit {0}

module _ (M : Elaborated) (P : Called → Type 0) where
  abbrev mutual
    -- P holds of all that an expression calls, but for arguments that are not looked at, whose values are of no use
    pub CallsOnly : Expression → Type 0
    CallsOnly (literal at value integer) = Unit {0}
    CallsOnly (infinity at) = Unit {0}
    CallsOnly (name at bytes) = Unit {0}
    CallsOnly (group at inner) = CallsOnly inner
    CallsOnly (unary at op operand) = CallsOnly operand
    CallsOnly (binary at left op right) = CallsOnly left × CallsOnly right
    CallsOnly (choose at test a b) = CallsOnly test × CallsOnly a × CallsOnly b
    CallsOnly (call at callee bytes args) = P (called (M.meaning at) callee bytes) × ArgumentsCallOnly (call_looks callee bytes) 0 args

    -- in arguments, of which the first of the list stands at a place
    pub ArgumentsCallOnly : (ℕ → Bool) → ℕ → Arguments → Type 0
    ArgumentsCallOnly looks place no_more = Unit {0}
    ArgumentsCallOnly looks place (text_then text rest) = ArgumentsCallOnly looks (place + 1) rest
    ArgumentsCallOnly looks place (expression_then e rest) = IfLookedAt (looks place) (CallsOnly e) × ArgumentsCallOnly looks (place + 1) rest

  abbrev pub AllCallOnly : List Expression → Type 0
  AllCallOnly [] = Unit {0}
  AllCallOnly (e ∷ es) = CallsOnly e × AllCallOnly es

  abbrev mutual
    -- and of all that a statement calls
    pub RunsOnly : Statement → Type 0
    RunsOnly (null at) = Unit {0}
    RunsOnly (block at label declarations body) = AllRunOnly body
    RunsOnly (only_if at test a) = CallsOnly test × RunsOnly a
    RunsOnly (if_else at test a b) = CallsOnly test × RunsOnly a × RunsOnly b
    RunsOnly (cases at selector items defaults) = CallsOnly selector × ItemsRunOnly items × DefaultsRunOnly defaults
    RunsOnly (for_loop at target first test target' step body) = CallsOnly first × CallsOnly test × CallsOnly step × RunsOnly body
    RunsOnly (while_loop at test body) = CallsOnly test × RunsOnly body
    RunsOnly (repeat_loop at count body) = CallsOnly count × RunsOnly body
    RunsOnly (event at kind analyses body) = RunsOnly body
    RunsOnly (assign at target value) = CallsOnly value
    RunsOnly (contribute at bytes first second value) = CallsOnly value
    RunsOnly (task at bytes args) = Unit {0}

    pub AllRunOnly : Statements → Type 0
    AllRunOnly no_statement = Unit {0}
    AllRunOnly (statement_then s rest) = RunsOnly s × AllRunOnly rest

    pub ItemsRunOnly : Items → Type 0
    ItemsRunOnly no_items = Unit {0}
    ItemsRunOnly (item_then at values body rest) = AllCallOnly values × RunsOnly body × ItemsRunOnly rest

    pub DefaultsRunOnly : Defaults → Type 0
    DefaultsRunOnly no_defaults = Unit {0}
    DefaultsRunOnly (default_then at body rest) = RunsOnly body × DefaultsRunOnly rest

  abbrev pub InitialisersCallOnly : List Initialiser → Type 0
  InitialisersCallOnly [] = Unit {0}
  InitialisersCallOnly (i ∷ is) = CallsOnly i.value × InitialisersCallOnly is

  -- and of all that a call of a function calls
  abbrev pub FunctionCallsOnly : Option Function → Type 0
  FunctionCallsOnly None = Unit {0}
  FunctionCallsOnly (Some f) = InitialisersCallOnly f.initialisers × RunsOnly f.body

-- In a call of a function, calls are nested at most so deep, its own counted.
abbrev pub IsNested : Elaborated → ℕ → ℕ → Type 0
IsNested M zero f = ⊥
IsNested M (suc depth) f = FunctionCallsOnly M (IfFunction (IsNested M depth)) (slice_get M.functions f)

-- No function of the module leads back to itself: calls are never nested deeper than there are functions.
abbrev pub IsWithoutCycle : Elaborated → Type 0
IsWithoutCycle M = (f : ℕ) → f < length M.functions → IsNested M (length M.functions) f
