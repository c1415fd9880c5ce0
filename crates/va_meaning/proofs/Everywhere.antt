-- What holds of everything that is called holds of all that is called in expressions, statements and functions.
use Rattle.std.specs.Prelude.{ℕ, ◌+◌, Bool, true, false, List, [], ◌∷◌, Option, Some, None}
use Rattle.va_sem.specs.LookedAt.{call_looks}
use Rattle.va_sem.specs.Lookup.{Bytes}
use Rattle.va_tree.specs.declared.expr.Callee.{Callee}
use Rattle.va_tree.specs.Expressions.{Expression, Arguments, literal, infinity, name, group, unary, binary, choose, call, no_more, text_then, expression_then}
use Rattle.va_tree.specs.Statements.{Statement, Statements, Items, Defaults, null, block, only_if, if_else, cases, for_loop, while_loop, repeat_loop, event, assign, contribute, task, no_more as no_statement, statement_then, no_items, item_then, no_defaults, default_then}
use Rattle.va_meaning.specs.Called.{Called, called}
use Rattle.va_meaning.specs.Elaborated.{Elaborated, Initialiser, Function}
use Rattle.va_meaning.specs.Nesting.{IfLookedAt, CallsOnly, ArgumentsCallOnly, AllCallOnly, RunsOnly, AllRunOnly, ItemsRunOnly, DefaultsRunOnly, InitialisersCallOnly, FunctionCallsOnly}
use Rattle.va_meaning.proofs.Nesting.{BlocksRunOnly}

in_any_case : (b : Bool) (P : Type 0) → P → IfLookedAt b P
in_any_case true P p = p
in_any_case false P p = tt

module _ (M : Elaborated) (P : Called → Type 0) (holds : (at : ℕ) (callee : Callee) (bytes : Bytes) → P (called (M.meaning at) callee bytes)) where
  mutual
    pub calls_everywhere : (e : Expression) → CallsOnly M P e
    calls_everywhere (literal at value integer) = tt
    calls_everywhere (infinity at) = tt
    calls_everywhere (name at bytes) = tt
    calls_everywhere (group at inner) = calls_everywhere inner
    calls_everywhere (unary at op operand) = calls_everywhere operand
    calls_everywhere (binary at left op right) = (calls_everywhere left, calls_everywhere right)
    calls_everywhere (choose at test a b) = (calls_everywhere test, calls_everywhere a, calls_everywhere b)
    calls_everywhere (call at callee bytes args) = (holds at callee bytes, arguments_everywhere (call_looks callee bytes) 0 args)

    arguments_everywhere : (looks : ℕ → Bool) (place : ℕ) (args : Arguments) → ArgumentsCallOnly M P looks place args
    arguments_everywhere looks place no_more = tt
    arguments_everywhere looks place (text_then text rest) = arguments_everywhere looks (place + 1) rest
    arguments_everywhere looks place (expression_then e rest) =
        (in_any_case (looks place) (CallsOnly M P e) (calls_everywhere e), arguments_everywhere looks (place + 1) rest)

  all_everywhere : (es : List Expression) → AllCallOnly M P es
  all_everywhere [] = tt
  all_everywhere (e ∷ es) = (calls_everywhere e, all_everywhere es)

  mutual
    pub runs_everywhere : (s : Statement) → RunsOnly M P s
    runs_everywhere (null at) = tt
    runs_everywhere (block at label declarations body) = all_run_everywhere body
    runs_everywhere (only_if at test a) = (calls_everywhere test, runs_everywhere a)
    runs_everywhere (if_else at test a b) = (calls_everywhere test, runs_everywhere a, runs_everywhere b)
    runs_everywhere (cases at selector items defaults) = (calls_everywhere selector, items_everywhere items, defaults_everywhere defaults)
    runs_everywhere (for_loop at target first test target' step body) =
        (calls_everywhere first, calls_everywhere test, calls_everywhere step, runs_everywhere body)
    runs_everywhere (while_loop at test body) = (calls_everywhere test, runs_everywhere body)
    runs_everywhere (repeat_loop at count body) = (calls_everywhere count, runs_everywhere body)
    runs_everywhere (event at kind analyses body) = runs_everywhere body
    runs_everywhere (assign at target value) = calls_everywhere value
    runs_everywhere (contribute at bytes first second value) = calls_everywhere value
    runs_everywhere (task at bytes args) = tt

    all_run_everywhere : (s : Statements) → AllRunOnly M P s
    all_run_everywhere no_statement = tt
    all_run_everywhere (statement_then s rest) = (runs_everywhere s, all_run_everywhere rest)

    items_everywhere : (items : Items) → ItemsRunOnly M P items
    items_everywhere no_items = tt
    items_everywhere (item_then at values body rest) = (all_everywhere values, runs_everywhere body, items_everywhere rest)

    defaults_everywhere : (defaults : Defaults) → DefaultsRunOnly M P defaults
    defaults_everywhere no_defaults = tt
    defaults_everywhere (default_then at body rest) = (runs_everywhere body, defaults_everywhere rest)

  pub initialisers_everywhere : (is : List Initialiser) → InitialisersCallOnly M P is
  initialisers_everywhere [] = tt
  initialisers_everywhere (i ∷ is) = (calls_everywhere i.value, initialisers_everywhere is)

  pub blocks_everywhere : (blocks : List Statement) → BlocksRunOnly M P blocks
  blocks_everywhere [] = tt
  blocks_everywhere (s ∷ rest) = (runs_everywhere s, blocks_everywhere rest)

  pub function_everywhere : (f : Option Function) → FunctionCallsOnly M P f
  function_everywhere None = tt
  function_everywhere (Some f) = (initialisers_everywhere f.initialisers, runs_everywhere f.body)
