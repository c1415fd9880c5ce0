-- The evaluation of a module at a point, over any algebra.
use Rattle.std.specs.Prelude.{ℕ, zero, suc, ◌+◌, false, List, [], ◌∷◌, Option, Some, None, length}
use Rattle.std.specs.List.{slice_get}
use Rattle.alg_laws.specs.declared.number.Reason.TheVariants.{Turns}
use Rattle.alg_laws.specs.NumberOps.{zero_of, converted}
use Rattle.alg_laws.specs.Operations.{Operations}
use Rattle.alg_laws.specs.Outcome.{Outcome, gives, ends, ◌>>=◌}
use Rattle.va_tree.specs.declared.source.Quantity.TheVariants.{Flow}
use Rattle.va_tree.specs.Statements.{Statement}
use Rattle.va_meaning.specs.Elaborated.{Elaborated, Initialiser, Function}
use Rattle.va_meaning.specs.Points.{Context, Result, without_unknowns, Store, with_variable, State, told}
use Rattle.va_meaning.specs.Runs.{statement_size, run}
use Rattle.va_meaning.specs.Values.{Functions, no_value, value_of}

module _ {V : Type 0} (M : Elaborated) where
  -- each variable at the zero of its type
  abbrev pub zeros : Operations V → Store V
  zeros o x = zero_of o (M.variable_type x)

  -- No branch holds anything but a flow of 0, and none has a mark.
  abbrev pub started : Operations V → Store V → State V
  started o vars = record { variables = vars; held = λ b. record { quantity = Flow; sum = o.zero }; marks = λ b. false }

module _ {E V : Type 0} (M : Elaborated) (c : Context E V) (F : Functions E V) where
  -- variables at their initialisers, one after the other
  abbrev pub initialised : List Initialiser → Store V → Outcome E (Store V)
  initialised [] vars = gives vars
  initialised (i ∷ rest) vars = do
    v ← value_of M c F 0 i.value vars
    w ← told c (converted c.ops (M.variable_type i.variable) v)
    initialised rest (with_variable vars i.variable w)

  -- arguments at what a call gives for them, each converted to the argument's type before the next
  abbrev pub passed : List ℕ → List (Result E V) → Store V → Outcome E (Store V)
  passed [] outs vars = gives vars
  passed (x ∷ xs) [] vars = gives vars
  passed (x ∷ xs) (out ∷ outs) vars = do
    v ← out
    w ← told c (converted c.ops (M.variable_type x) v)
    passed xs outs (with_variable vars x w)

  -- A call of a function (User-defined analog functions): its variables start anew, and it gives the value of its own name at the
  -- end, in a place of its type.
  abbrev pub function_value : Function → List (Result E V) → Result E V
  function_value f outs = do
    vars ← passed f.arguments outs (zeros M c.ops)
    begun ← initialised f.initialisers vars
    last ← run M c F false 0 f.body (started M c.ops begun)
    told c (converted c.ops f.ty (last.variables f.result))

  abbrev pub function_or_none : Option Function → List (Result E V) → Result E V
  function_or_none None outs = gives (no_value c.ops)
  function_or_none (Some f) outs = function_value f outs

  -- analogue blocks, one after the other
  abbrev pub run_blocks : ℕ → List Statement → State V → Outcome E (State V)
  run_blocks place [] s = gives s
  run_blocks place (body ∷ rest) s = run M c F false place body s >>= run_blocks (place + statement_size body) rest

module _ {E V : Type 0} (M : Elaborated) (c : Context E V) where
  -- The functions of a module, where calls are nested at most so deep. They are seen before their declarations too, so the
  -- functions that one of depth k + 1 calls are those of depth k. Since no function leads back to itself, as many depths as
  -- there are functions are enough; a call that is nested deeper would have no end, as a loop without one.
  abbrev pub functions_to : ℕ → Functions E V
  functions_to zero f outs = ends (c.stops Turns)
  functions_to (suc depth) f outs = function_or_none M c (functions_to depth) (slice_get M.functions f) outs

-- Functions and initialisers read no unknown.
abbrev pub functions : {E V : Type 0} → Elaborated → Context E V → Functions E V
functions M c = functions_to M (without_unknowns c) (length M.functions)

-- An evaluation begins with the variables of the module and its blocks at their initialisers, and goes through the analogue blocks
-- in order. It ends with the variables and with what each branch holds, or is undefined.
abbrev pub evaluated : {E V : Type 0} → Elaborated → Context E V → Outcome E (State V)
evaluated M c = do
  vars ← initialised M (without_unknowns c) (functions M c) M.initialisers (zeros M c.ops)
  run_blocks M c (functions M c) 0 M.blocks (started M c.ops vars)

-- The same where calls of functions are nested at most so deep.
abbrev pub evaluated_to : {E V : Type 0} → Elaborated → Context E V → ℕ → Outcome E (State V)
evaluated_to M c depth = do
  vars ← initialised M (without_unknowns c) (functions_to M (without_unknowns c) depth) M.initialisers (zeros M c.ops)
  run_blocks M c (functions_to M (without_unknowns c) depth) 0 M.blocks (started M c.ops vars)
