-- The types of values (Expressions, Operators): that a value has the type that its expression has.
use Rattle.std.specs.Prelude.{◌≡◌, ℕ, [], flat_map, get_or, Option, Some, None}
use Rattle.std.specs.List.{slice_get}
use Rattle.alg_laws.specs.declared.number.Ty.{Ty}
use Rattle.alg_laws.specs.declared.number.Ty.TheVariants.{Real}
use Rattle.alg_laws.specs.NumberOps.{type_of as type_of_number}
use Rattle.va_sem.specs.Typing.{Typing, meaning_at, signature_at, type_of}
use Rattle.va_sem.specs.TypesFaults.{expression_faults}
use Rattle.va_sem.specs.LookedAt.{looked_at}
use Rattle.va_tree.specs.Expressions.{Expression}
use Rattle.va_meaning.specs.Elaborated.{Elaborated, Function}
use Rattle.va_meaning.specs.Points.{Point, Store}

-- the type of what a function gives
abbrev pub result_type : Option Function → Ty
result_type None = Real
result_type (Some f) = f.ty

-- A module has the types that names, variables and functions have.
pub record HasTyping (M : Elaborated) (t : Typing) : Type 0 where
  pub meaning : (at : ℕ) → M.meaning at ≡ meaning_at t.uses at
  pub types : (e : Expression) → M.type_of e ≡ type_of t e
  pub variables : (x : ℕ) → M.variable_type x ≡ get_or t.variables x Real
  pub functions : (f : ℕ) → result_type (slice_get M.functions f) ≡ (signature_at t.functions f).result

-- Every parameter and every variable has a value of its type.
abbrev pub IsTypedPoint : {V : Type 0} → Typing → Point V → Type 0
IsTypedPoint t P = (p : ℕ) → type_of_number (P.parameters p) ≡ get_or t.parameters p Real

abbrev pub IsTypedStore : {V : Type 0} → Elaborated → Store V → Type 0
IsTypedStore M vars = (x : ℕ) → type_of_number (vars x) ≡ M.variable_type x

-- what of an expression is looked at has no fault of types of its own
abbrev pub HasNoTypeFault : Typing → Expression → Type 0
HasNoTypeFault t e = flat_map (expression_faults t) (looked_at e) ≡ []
