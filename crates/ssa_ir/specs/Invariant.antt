-- The invariant of bodies: each number is defined once, an operand is defined earlier in its block or in one that encloses it, with its
-- type, and a call's function stands earlier, with its number and types of arguments.
use Rattle.std.specs.Prelude.{◌≡◌, ℕ, zero, suc, ◌<◌, ◌==◌, Bool, true, false, if◌then◌else◌, List, [], ◌∷◌, ◌++◌, Option, Some, All, length}
use Rattle.std.specs.List.{slice_get, IsDistinct}
use Rattle.alg_laws.specs.declared.function.Fun1.{Fun1}
use Rattle.alg_laws.specs.declared.function.Fun2.{Fun2}
use Rattle.alg_laws.specs.declared.number.Ty.{Ty}
use Rattle.alg_laws.specs.declared.number.Ty.TheVariants as type
use Rattle.alg_laws.specs.IntegerOps.{in_range}
use Rattle.ssa_ir.specs.declared.body.BinaryOperator.{BinaryOperator}
use Rattle.ssa_ir.specs.declared.body.BinaryOperator.TheVariants.{Add, Subtract, Multiply, Divide, Remainder, Less, AtMost, Equal, NotEqual}
use Rattle.ssa_ir.specs.declared.body.Body.{Body}
use Rattle.ssa_ir.specs.declared.body.Function.{Function}
use Rattle.ssa_ir.specs.declared.body.Operation.{Operation}
use Rattle.ssa_ir.specs.declared.body.Operation.TheVariants.{Literal, Integer, Parameter, Given, Temperature, Unknown, Cell, Unary, Binary, One, Two, Call}
use Rattle.ssa_ir.specs.declared.body.UnaryOperator.{UnaryOperator}
use Rattle.ssa_ir.specs.declared.body.UnaryOperator.TheVariants.{Negative, Contrary, ToReal, ToInteger, TimeDerivative}
use Rattle.ssa_ir.specs.Body.{Merge, first_of, second_of, Step, Steps, value, choice, loop, stop, step, numbers}
use Rattle.ssa_ir.specs.Evaluation.{with_value}
use Rattle.ssa_ir.specs.Flat.{lines, steps_of}

-- the types of a function's arguments, and of its value
pub record Signature : Type 0 where
  pub arguments : List Ty
  pub result : Ty

-- What a body may read, and call: the parameters and cells by their types, how many unknowns, whether it may read given marks and the
-- temperature, whether it may hold time derivatives, and the functions that stand before it.
pub record Frame : Type 0 where
  pub parameters : List Ty
  pub given : Bool
  pub temperature : Bool
  pub unknowns : ℕ
  pub derivatives : Bool
  pub cells : List Ty
  pub functions : List Signature

-- the numbers that are in scope, with their types
abbrev pub Scope : Type 0
Scope = ℕ → Option Ty

-- The type of what an operator gives of values of a type.
pub data UnaryType : Frame → UnaryOperator → Ty → Ty → Type 0 where
  negative : {f : Frame} {t : Ty} → UnaryType f Negative t t
  contrary : {f : Frame} {t : Ty} → UnaryType f Contrary t type.Integer
  to_real : {f : Frame} → UnaryType f ToReal type.Integer type.Real
  to_integer : {f : Frame} → UnaryType f ToInteger type.Real type.Integer
  time_derivative : {f : Frame} → f.derivatives ≡ true → UnaryType f TimeDerivative type.Real type.Real

pub data BinaryType : BinaryOperator → Ty → Ty → Type 0 where
  sum : {t : Ty} → BinaryType Add t t
  difference : {t : Ty} → BinaryType Subtract t t
  product : {t : Ty} → BinaryType Multiply t t
  quotient : {t : Ty} → BinaryType Divide t t
  remainder : BinaryType Remainder type.Integer type.Integer
  less : {t : Ty} → BinaryType Less t type.Integer
  at_most : {t : Ty} → BinaryType AtMost t type.Integer
  equal : {t : Ty} → BinaryType Equal t type.Integer
  not_equal : {t : Ty} → BinaryType NotEqual t type.Integer

-- numbers in scope that have these types, in order
pub data AreInScope (sc : Scope) : List ℕ → List Ty → Type 0 where
  no_more : AreInScope sc [] []
  one_more : {k : ℕ} {t : Ty} {ks : List ℕ} {ts : List Ty} → sc k ≡ Some t → AreInScope sc ks ts → AreInScope sc (k ∷ ks) (t ∷ ts)

-- An operation whose operands are in scope, and the type of what it gives.
pub data HasType (f : Frame) (sc : Scope) : Operation → Ty → Type 0 where
  literal : {d : _} → HasType f sc (Literal d) type.Real
  integer : {i : _} → in_range i ≡ true → HasType f sc (Integer i) type.Integer
  parameter : {p : ℕ} {t : Ty} → slice_get f.parameters p ≡ Some t → HasType f sc (Parameter p) t
  given : {p : ℕ} → f.given ≡ true → p < length f.parameters → HasType f sc (Given p) type.Integer
  temperature : f.temperature ≡ true → HasType f sc Temperature type.Real
  unknown : {j : ℕ} → j < f.unknowns → HasType f sc (Unknown j) type.Real
  cell : {i : ℕ} {t : Ty} → slice_get f.cells i ≡ Some t → HasType f sc (Cell i) t
  unary : {op : UnaryOperator} {a : ℕ} {t u : Ty} → sc a ≡ Some t → UnaryType f op t u → HasType f sc (Unary op a) u
  binary : {op : BinaryOperator} {a b : ℕ} {t u : Ty} → sc a ≡ Some t → sc b ≡ Some t → BinaryType op t u → HasType f sc (Binary op a b) u
  one : {g : Fun1} {a : ℕ} → sc a ≡ Some type.Real → HasType f sc (One g a) type.Real
  two : {g : Fun2} {a b : ℕ} → sc a ≡ Some type.Real → sc b ≡ Some type.Real → HasType f sc (Two g a b) type.Real
  call : {g : ℕ} {args : List ℕ} {s : Signature} → slice_get f.functions g ≡ Some s → AreInScope sc args s.arguments → HasType f sc (Call g args) s.result

-- with merges in scope too
abbrev pub with_merges : List Merge → Scope → Scope
with_merges [] sc j = sc j
with_merges (m ∷ ms) sc j = if j == m.number then Some m.ty else with_merges ms sc j

-- what is in scope behind a step, and behind steps
abbrev pub behind_step : Step → Scope → Scope
behind_step (value k t op) sc = with_value sc k (Some t)
behind_step (choice test a b joins) sc = with_merges joins sc
behind_step (loop heads before test turn) sc = with_merges heads sc

abbrev pub behind : Steps → Scope → Scope
behind stop sc = sc
behind (step s rest) sc = behind rest (behind_step s sc)

-- some type, and that
abbrev pub IsInScope : Scope → ℕ → Type 0
IsInScope sc k = (t : Ty) × (sc k ≡ Some t)

-- the operand of each merge is in scope with its type
abbrev pub MergesIn : (Merge → ℕ) → Scope → List Merge → Type 0
MergesIn side sc [] = Unit {0}
MergesIn side sc (m ∷ ms) = (sc (side m) ≡ Some m.ty) × MergesIn side sc ms

-- each operand is in scope, with its type
abbrev mutual
  pub StepIsTyped : Frame → Scope → Step → Type 0
  StepIsTyped f sc (value k t op) = HasType f sc op t
  StepIsTyped f sc (choice test a b joins) =
      IsInScope sc test × IsTyped f sc a × IsTyped f sc b × MergesIn first_of (behind a sc) joins × MergesIn second_of (behind b sc) joins
  StepIsTyped f sc (loop heads before test turn) =
      MergesIn first_of sc heads × IsTyped f (with_merges heads sc) before × IsInScope (behind before (with_merges heads sc)) test
      × IsTyped f (behind before (with_merges heads sc)) turn × MergesIn second_of (behind turn (behind before (with_merges heads sc))) heads

  pub IsTyped : Frame → Scope → Steps → Type 0
  IsTyped f sc stop = Unit {0}
  IsTyped f sc (step s rest) = StepIsTyped f sc s × IsTyped f (behind_step s sc) rest

-- the arguments of a function, and their numbers
abbrev pub arguments_in : List Ty → Scope
arguments_in ts k = slice_get ts k

abbrev pub counted : ℕ → ℕ → List ℕ
counted n zero = []
counted n (suc m) = n ∷ counted (suc n) m

-- A body in a frame with these arguments: the instructions are nested as they have to be, operands are in scope, each number is defined
-- once and lies below the free one.
pub record IsBody (f : Frame) (arguments : List Ty) (b : Body) : Type 0 where
  pub nested : lines (steps_of b.instructions) ≡ b.instructions
  pub typed : IsTyped f (arguments_in arguments) (steps_of b.instructions)
  pub once : IsDistinct ◌==◌ (counted 0 (length arguments) ++ numbers (steps_of b.instructions))
  pub below : All (λ k. k < b.free) (counted 0 (length arguments) ++ numbers (steps_of b.instructions))

-- what is in scope at the end of a body
abbrev pub at_end : List Ty → Body → Scope
at_end arguments b = behind (steps_of b.instructions) (arguments_in arguments)

abbrev pub signature_of : Function → Signature
signature_of g = record { arguments = g.arguments; result = g.ty }

-- a function reads its arguments alone, and calls earlier functions
abbrev pub function_frame : List Signature → Frame
function_frame earlier = record {
  parameters = [];
  given = false;
  temperature = false;
  unknowns = 0;
  derivatives = false;
  cells = [];
  functions = earlier;
}

pub record IsFunction (earlier : List Signature) (g : Function) : Type 0 where
  pub body : IsBody (function_frame earlier) g.arguments g.body
  pub result : at_end g.arguments g.body g.result ≡ Some g.ty

-- functions, behind earlier ones
abbrev pub AreFunctions : List Signature → List Function → Type 0
AreFunctions earlier [] = Unit {0}
AreFunctions earlier (g ∷ gs) = IsFunction earlier g × AreFunctions (earlier ++ signature_of g ∷ []) gs

-- the signatures of functions, behind earlier ones
abbrev pub signatures_from : List Signature → List Function → List Signature
signatures_from earlier [] = earlier
signatures_from earlier (g ∷ gs) = signatures_from (earlier ++ signature_of g ∷ []) gs

abbrev pub signatures : List Function → List Signature
signatures gs = signatures_from [] gs
