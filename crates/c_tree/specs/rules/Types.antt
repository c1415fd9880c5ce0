-- Operands have the same type, and results have the declared type; a function that is called stands earlier, with its number and
-- types of arguments. What isn't there, as a rule on fields, locals or calls has it, has no type here.
use Rattle.std.specs.Prelude.{ℕ, ◌==◌, Bool, true, false, if◌then◌else◌, nat_lt, List, [], ◌∷◌, ◌++◌, length, map, slice_get, Option, Some, None}
use Rattle.std.specs.List.{flat_map}
use Rattle.alg_laws.specs.declared.number.Ty.{Ty}
use Rattle.alg_laws.specs.declared.number.Ty.TheVariants.{Integer, Real}
use Rattle.c_tree.specs.declared.body.CAtom.{CAtom}
use Rattle.c_tree.specs.declared.body.CAtom.TheVariants as atom
use Rattle.c_tree.specs.declared.body.CCallee.{CCallee}
use Rattle.c_tree.specs.declared.body.CCallee.TheVariants as callee
use Rattle.c_tree.specs.declared.body.COperator.{COperator}
use Rattle.c_tree.specs.declared.body.COperator.TheVariants.{Plus, Minus, Times, Over, Remainder}
use Rattle.c_tree.specs.SameType.{same_type}
use Rattle.c_tree.specs.Raw.{At, RawRight, same, negated, contrary, to_real, to_integer, call, binary, RawSimple, constant, join, head, assign, set_cell, set_flag, report, RawArgument, RawFunction, RawModule, RawFile}
use Rattle.c_tree.specs.rules.Bodies.{Declared, Item, of_simple, of_test, of_value, Scoped, BodyKind, a_function, RawBody, items_of, in_bodies}
use Rattle.c_tree.specs.rules.Fields.{cell_type}

abbrev pub type_of_local : ℕ → List Declared → Option Ty
type_of_local i [] = None
type_of_local i (d ∷ rest) = if d.number == i then Some d.ty else type_of_local i rest

abbrev pub type_of_argument : ℕ → List RawArgument → Option Ty
type_of_argument i [] = None
type_of_argument i (a ∷ rest) = if a.number.value == i then Some a.ty else type_of_argument i rest

-- the functions before a body are those that it can call
abbrev pub function_before : BodyKind → ℕ → ℕ
function_before (a_function j) all = j
function_before _ all = all

abbrev pub function_called : RawModule → RawBody → ℕ → Option RawFunction
function_called m b j = if nat_lt j (function_before b.kind (length m.functions)) then slice_get m.functions j else None

-- the types of a function's arguments, and of its result
pub record Signature : Type 0 where
  pub arguments : List Ty
  pub result : Ty

abbrev pub signature_of : Option RawFunction → Option Signature
signature_of None = None
signature_of (Some f) = Some (let s : Signature = record { arguments = map (λ a. RawArgument.ty a) f.arguments; result = f.result } in s)

-- functions of C's library take and give doubles
abbrev pub signature : RawModule → RawBody → CCallee → Option Signature
signature m b (callee.Fun1 f) = Some (let s : Signature = record { arguments = Real ∷ []; result = Real } in s)
signature m b (callee.Fun2 f) = Some (let s : Signature = record { arguments = Real ∷ Real ∷ []; result = Real } in s)
signature m b (callee.Function j) = signature_of (function_called m b j)

-- a call of what is there, with its number of arguments
abbrev pub fitting : Option Signature → ℕ → Option Signature
fitting None count = None
fitting (Some s) count = if length s.arguments == count then Some s else None

-- an atom of a type that goes where this one is wanted is blamed where the two differ
abbrev pub differs : Option Ty → Ty → ℕ → List ℕ
differs None wanted at = []
differs (Some ty) wanted at = if same_type ty wanted then [] else at ∷ []

-- what some tests blame, or, where they blame nothing, what others do
abbrev pub or_else : List ℕ → List ℕ → List ℕ
or_else [] others = others
or_else (at ∷ faults) others = at ∷ faults

-- whether an operator is a comparison, whose result is an integer
abbrev pub is_comparison : COperator → Bool
is_comparison Plus = false
is_comparison Minus = false
is_comparison Times = false
is_comparison Over = false
is_comparison Remainder = false
is_comparison _ = true

abbrev pub is_remainder : COperator → Bool
is_remainder Remainder = true
is_remainder _ = false

module _ (m : RawModule) (b : RawBody) (known : List Declared) where
  abbrev pub type_of_atom : CAtom → Option Ty
  type_of_atom (atom.Local i) = type_of_local i known
  type_of_atom (atom.Argument i) = type_of_argument i b.arguments
  type_of_atom (atom.Integer i) = Some Integer
  type_of_atom (atom.Real d) = Some Real
  type_of_atom (atom.Cell cell) = cell_type m cell
  type_of_atom (atom.Unknown i) = Some Real

  -- an atom where a type is wanted
  abbrev pub wanted : Ty → At CAtom → List ℕ
  wanted ty a = differs (type_of_atom a.value) ty a.at

  abbrev pub wanted_by : Option Ty → At CAtom → List ℕ
  wanted_by None a = []
  wanted_by (Some ty) a = wanted ty a

  abbrev pub arguments_differ : List Ty → List (At CAtom) → List ℕ
  arguments_differ [] args = []
  arguments_differ (ty ∷ types) [] = []
  arguments_differ (ty ∷ types) (a ∷ args) = wanted ty a ++ arguments_differ types args

  abbrev pub call_differs : Option Signature → List (At CAtom) → List ℕ
  call_differs None args = []
  call_differs (Some s) args = arguments_differ s.arguments args

  -- of two operands of different types the second is blamed, but with `%` each that is a double
  abbrev pub operands_differ : RawRight → List ℕ
  operands_differ (binary a op c) =
      if is_remainder op then wanted Integer a ++ wanted Integer c else wanted_by (type_of_atom a.value) c
  operands_differ _ = []

  -- what a sign, a cast or a call takes
  abbrev pub operand_differs : RawRight → List ℕ
  operand_differs (contrary a) = wanted Integer a
  operand_differs (to_real a) = wanted Integer a
  operand_differs (to_integer a) = wanted Real a
  operand_differs (call f args) = call_differs (fitting (signature m b f) (length args)) args
  operand_differs _ = []

  abbrev pub result_of : Option Signature → Option Ty
  result_of None = None
  result_of (Some s) = Some s.result

  -- a comparison and a remainder are integers, the other operators give the type of their operands
  abbrev pub joint : COperator → Option Ty → Option Ty → Option Ty
  joint op None second = if is_comparison op then Some Integer else (if is_remainder op then Some Integer else None)
  joint op (Some first) second = if is_comparison op then Some Integer else (if is_remainder op then Some Integer else second)

  abbrev pub type_of_right : RawRight → Option Ty
  type_of_right (same a) = type_of_atom a.value
  type_of_right (negated a) = type_of_atom a.value
  type_of_right (contrary a) = Some Integer
  type_of_right (to_real a) = Some Real
  type_of_right (to_integer a) = Some Integer
  type_of_right (call f args) = result_of (fitting (signature m b f) (length args))
  type_of_right (binary a op c) = joint op (type_of_atom a.value) (type_of_atom c.value)

  -- the declared type isn't tested where an operand is blamed for the other
  abbrev pub right_differs : Ty → At RawRight → List ℕ
  right_differs ty side =
      operand_differs side.value ++ or_else (operands_differ side.value) (differs (type_of_right side.value) ty side.at)

  abbrev pub simple_differs : RawSimple → List ℕ
  simple_differs (constant ty i side) = right_differs ty side
  simple_differs (join ty i) = []
  simple_differs (head ty i first) = wanted ty first
  simple_differs (assign i value) = wanted_by (type_of_local i.value known) value
  simple_differs (set_cell cell value) = wanted_by (cell_type m cell.value) value
  simple_differs (set_flag pair value) = wanted Integer value
  simple_differs (report id) = []

  abbrev pub item_differs : Item → List ℕ
  item_differs (of_simple s) = simple_differs s
  item_differs (of_test a) = wanted Integer a
  item_differs (of_value ty a) = wanted ty a

-- a call of what isn't there, or with another number of arguments
abbrev pub not_fitting : Option Signature → ℕ → List ℕ
not_fitting None at = at ∷ []
not_fitting (Some s) at = []

abbrev pub right_calls : RawModule → RawBody → At RawRight → List ℕ
right_calls m b side = among side.value
  where
    among : RawRight → List ℕ
    among (call f args) = not_fitting (fitting (signature m b f) (length args)) side.at
    among _ = []

abbrev pub item_calls : RawModule → RawBody → Scoped → List ℕ
item_calls m b s = among s.item
  where
    among : Item → List ℕ
    among (of_simple (constant ty i side)) = right_calls m b side
    among _ = []

abbrev pub types_agree : RawFile → List ℕ
types_agree = in_bodies (λ m b. flat_map (λ s. item_differs m b (Scoped.known s) (Scoped.item s)) (items_of b))

abbrev pub calls_fit : RawFile → List ℕ
calls_fit = in_bodies (λ m b. flat_map (item_calls m b) (items_of b))
