-- How bodies of C functions run on the machine, over any algebra, where each entry to a `for` may make at most n turns.
use Rattle.std.specs.Prelude.{ℕ, ◌+◌, ◌==◌, not, Bool, false, if◌then◌else◌, pos}
use Rattle.std.specs.Prelude.{List, [], ◌∷◌, ◌++◌, Option, Some, None}
use Rattle.alg_laws.specs.declared.number.Number.{Number}
use Rattle.alg_laws.specs.declared.number.Number.TheVariants.{Real, Int}
use Rattle.alg_laws.specs.declared.number.Reason.TheVariants.{Turns}
use Rattle.alg_laws.specs.declared.number.Ty.{Ty}
use Rattle.alg_laws.specs.declared.number.Ty.TheVariants.{Integer, Real as RealTy}
use Rattle.alg_laws.specs.LiteralValue.{literal_value}
use Rattle.alg_laws.specs.Loop.{turns, tested}
use Rattle.alg_laws.specs.NumberOps.{type_of, truth, converted, is_true, sum_of, difference_of, product_of, quotient_of, remainder_of, negative_of, is_less, is_at_most, is_same, contrary_of, fun1_of, fun2_of}
use Rattle.alg_laws.specs.Operations.{Operations}
use Rattle.alg_laws.specs.Outcome.{Outcome, gives, ends, ◌>>=◌}
use Rattle.c_tree.specs.declared.body.CAtom.{CAtom}
use Rattle.c_tree.specs.declared.body.CAtom.TheVariants as atom
use Rattle.c_tree.specs.declared.body.CCallee.{CCallee}
use Rattle.c_tree.specs.declared.body.CCallee.TheVariants as callee
use Rattle.c_tree.specs.declared.body.COperator.{COperator}
use Rattle.c_tree.specs.declared.body.COperator.TheVariants.{Plus, Minus, Times, Over, Remainder, Less, AtMost, Greater, AtLeast, Same, Differs}
use Rattle.c_tree.specs.declared.body.CRight.{CRight}
use Rattle.c_tree.specs.declared.body.CRight.TheVariants as right
use Rattle.c_tree.specs.declared.body.CSimple.{CSimple}
use Rattle.c_tree.specs.declared.body.CSimple.TheVariants.{Constant, Join, Head, Assign, SetCell, SetCollapse, Report}
use Rattle.c_tree.specs.declared.body.Level.{Level}
use Rattle.c_tree.specs.declared.body.Level.TheVariants.{Instance, Model}
use Rattle.c_tree.specs.declared.file.CArgument.{CArgument}
use Rattle.c_tree.specs.declared.file.CFunction.{CFunction}
use Rattle.c_tree.specs.declared.file.CModule.{CModule}
use Rattle.c_tree.specs.Blocks.{Block, done, simple, choice, loop, block_of}
use Rattle.c_tree.specs.SameType.{same_type}
use Rattle.c_machine.specs.Machine.{Stop, undefined, stuck, defined, found, only_if, Machine, no_machine, typed, read_cell, write_cell, write_flag, at_place}

-- a local of a function: not there, there without a value, or with one
pub data Local (V : Type 0) : Type 0 where
  absent : Local V
  empty : Ty → Local V
  holds : Number V → Local V

-- the locals of a function by their numbers
abbrev pub Locals : Type 0 → Type 0
Locals V = ℕ → Local V

abbrev pub no_locals : {V : Type 0} → Locals V
no_locals i = absent

abbrev pub with_local : {V : Type 0} → Locals V → ℕ → Local V → Locals V
with_local old at new = λ i. if i == at then new else old i

-- a call of a function of the module, by its place and its arguments' values
abbrev pub Calls : Type 0 → Type 0
Calls V = ℕ → List (Number V) → Outcome Stop (Number V)

-- what the statements of a body can speak of: the structs and the reports that it has, the solution, the arguments, and the
-- functions before it
pub record Scope (V : Type 0) : Type 0 where
  pub tree : CModule
  pub has_model : Bool
  pub has_instance : Bool
  pub reports : Bool
  pub solution : Option (List V)
  pub arguments : ℕ → Option (Number V)
  pub calls : Calls V

-- where a body is: its locals, and the machine
pub record State (V : Type 0) : Type 0 where
  pub locals : Locals V
  pub machine : Machine V

abbrev pub has : {V : Type 0} → Scope V → Level → Bool
has c Model = c.has_model
has c Instance = c.has_instance

abbrev pub local_value : {V : Type 0} → Local V → Outcome Stop (Number V)
local_value absent = ends stuck
local_value (empty ty) = ends stuck
local_value (holds v) = gives v

abbrev pub local_type : {V : Type 0} → Local V → Outcome Stop Ty
local_type absent = ends stuck
local_type (empty ty) = gives ty
local_type (holds v) = gives (type_of v)

abbrev pub set_local : {V : Type 0} → State V → ℕ → Local V → State V
set_local s i x = record s { locals = with_local s.locals i x }

abbrev pub on_machine : {V : Type 0} → State V → Outcome Stop (Machine V) → Outcome Stop (State V)
on_machine s next = do
  machine ← next
  gives (record s { machine = machine })

module _ {V : Type 0} (o : Operations V) where
  abbrev pub atom_value : Scope V → State V → CAtom → Outcome Stop (Number V)
  atom_value c s (atom.Local i) = local_value (s.locals i)
  atom_value c s (atom.Argument i) = found (c.arguments i)
  atom_value c s (atom.Integer i) = gives (Int (pos i))
  atom_value c s (atom.Real d) = gives (Real (literal_value o d.mantissa d.power))
  atom_value c s (atom.Cell cell) = only_if (has c cell.level) (read_cell c.tree s.machine cell)
  atom_value c s (atom.Unknown i) = do
    solution ← found c.solution
    x ← at_place s.machine.node solution i
    only_if c.has_instance (gives (Real x))

  -- from left to right
  abbrev pub atom_values : Scope V → State V → List CAtom → Outcome Stop (List (Number V))
  atom_values c s [] = gives []
  atom_values c s (a ∷ rest) = do
    v ← atom_value c s a
    vs ← atom_values c s rest
    gives (v ∷ vs)

  -- an integer, as tests and `!` want
  abbrev pub integer_value : Scope V → State V → CAtom → Outcome Stop (Number V)
  integer_value c s a = do
    v ← atom_value c s a
    typed Integer v

  abbrev pub test_value : Scope V → State V → CAtom → Outcome Stop Bool
  test_value c s a = do
    v ← integer_value c s a
    gives (is_true o v)

  -- of two operands of one type
  abbrev pub operated : COperator → Number V → Number V → Outcome Stop (Number V)
  operated Plus v w = defined (sum_of o v w)
  operated Minus v w = defined (difference_of o v w)
  operated Times v w = defined (product_of o v w)
  operated Over v w = defined (quotient_of o v w)
  operated Remainder v w = do
    i ← typed Integer v
    defined (remainder_of o i w)
  operated Less v w = gives (truth (is_less o v w))
  operated AtMost v w = gives (truth (is_at_most o v w))
  operated Greater v w = gives (truth (is_less o w v))
  operated AtLeast v w = gives (truth (is_at_most o w v))
  operated Same v w = gives (truth (is_same o v w))
  operated Differs v w = gives (truth (not (is_same o v w)))

  -- functions of C's library take and give doubles
  abbrev pub called : Calls V → CCallee → List (Number V) → Outcome Stop (Number V)
  called calls (callee.Fun1 f) (v ∷ []) = do
    x ← typed RealTy v
    gives (fun1_of o f x)
  called calls (callee.Fun2 f) (v ∷ w ∷ []) = do
    x ← typed RealTy v
    y ← typed RealTy w
    gives (fun2_of o f x y)
  called calls (callee.Function j) args = calls j args
  called calls f args = ends stuck

  abbrev pub right_value : Scope V → State V → CRight → Outcome Stop (Number V)
  right_value c s (right.Same a) = atom_value c s a
  right_value c s (right.Negated a) = do
    v ← atom_value c s a
    defined (negative_of o v)
  right_value c s (right.Contrary a) = do
    v ← integer_value c s a
    gives (contrary_of o v)
  right_value c s (right.ToReal a) = do
    v ← integer_value c s a
    defined (converted o RealTy v)
  right_value c s (right.ToInteger a) = do
    v ← atom_value c s a
    x ← typed RealTy v
    defined (converted o Integer x)
  right_value c s (right.Call f args) = do
    vs ← atom_values c s args
    called c.calls f vs
  right_value c s (right.Binary a op b) = do
    v ← atom_value c s a
    w ← atom_value c s b
    only_if (same_type (type_of v) (type_of w)) (operated op v w)

  -- A statement without blocks. A local lives on behind its block, where by the rules of form nothing reads it.
  abbrev pub step : Scope V → CSimple → State V → Outcome Stop (State V)
  step c (Constant ty i side) s = do
    v ← right_value c s side
    w ← typed ty v
    gives (set_local s i (holds w))
  step c (Join ty i) s = gives (set_local s i (empty ty))
  step c (Head ty i first) s = do
    v ← atom_value c s first
    w ← typed ty v
    gives (set_local s i (holds w))
  step c (Assign i value) s = do
    v ← atom_value c s value
    ty ← local_type (s.locals i)
    w ← typed ty v
    gives (set_local s i (holds w))
  step c (SetCell cell value) s = do
    v ← atom_value c s value
    only_if (has c cell.level) (on_machine s (write_cell c.tree cell v s.machine))
  step c (SetCollapse pair value) s = do
    v ← atom_value c s value
    only_if c.has_instance (on_machine s (write_flag c.tree pair v s.machine))
  step c (Report id) s =
      only_if c.reports (gives (record s { machine = record s.machine { errors = s.machine.errors ++ id ∷ [] } }))

  -- The statements of a block. A loop whose test holds once more than n times has no more turns.
  abbrev pub run_block : ℕ → Scope V → Block → State V → Outcome Stop (State V)
  run_block n c done s = gives s
  run_block n c (simple statement rest) s = step c statement s >>= run_block n c rest
  run_block n c (choice test first second rest) s = do
    goes ← test_value c s test
    next ← if goes then run_block n c first s else run_block n c second s
    run_block n c rest next
  run_block n c (loop before test turn rest) s = do
    last ← turns (undefined Turns) (λ head. run_block n c before head >>= tested (λ at. test_value c at test)) (λ at. at.goes)
        (λ at. run_block n c turn at.state) n s
    run_block n c rest last.state

  -- the arguments of a call, whose number and types have to be those of the function
  abbrev pub arguments_of : List CArgument → List (Number V) → Outcome Stop (ℕ → Option (Number V))
  arguments_of [] [] = gives (λ i. None)
  arguments_of (argument ∷ more) (v ∷ vs) = do
    w ← typed argument.ty v
    later ← arguments_of more vs
    gives (λ i. if i == argument.number then Some w else later i)
  arguments_of [] (v ∷ vs) = ends stuck
  arguments_of (argument ∷ more) [] = ends stuck

  -- a call of a function that may itself call some
  abbrev pub call_function : ℕ → CModule → Calls V → CFunction → List (Number V) → Outcome Stop (Number V)
  call_function n m calls f args = do
    arguments ← arguments_of f.arguments args
    let c : Scope V = record { tree = m; has_model = false; has_instance = false; reports = false; solution = None; arguments = arguments; calls = calls }
    last ← run_block n c (block_of f.body) (record { locals = no_locals; machine = no_machine })
    v ← atom_value c last f.value
    typed f.result v

  -- the calls of the functions from number j on, each of which may call those before it
  abbrev pub calls_from : ℕ → CModule → ℕ → Calls V → List CFunction → Calls V
  calls_from n m j before [] = before
  calls_from n m j before (f ∷ rest) =
      calls_from n m (j + 1) (λ i args. if i == j then call_function n m before f args else before i args) rest

  abbrev pub calls_of : ℕ → CModule → Calls V
  calls_of n m = calls_from n m 0 (λ i args. ends stuck) m.functions
