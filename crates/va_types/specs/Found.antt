-- What a walk over expressions of a module finds: types behind those that it found before, and the least of all faults.
use Rattle.std.specs.Prelude.{◌≡◌, ℕ, ◌+◌, Bool, List, [], ◌∷◌, ◌++◌, flat_map, Option, Some, None, if◌then◌else◌}
use Rattle.alg_laws.specs.declared.number.Ty.{Ty}
use Rattle.alg_laws.specs.declared.number.Ty.TheVariants.{Real}
use Rattle.va_tree.specs.declared.expr.Arg.{Arg}
use Rattle.va_tree.specs.declared.expr.Arg.TheVariants as arg
use Rattle.va_tree.specs.Expressions.{Expression, Arguments, no_more, text_then, expression_then, expression_of, at_of}
use Rattle.va_sem.specs.declared.names.NameUse.{NameUse}
use Rattle.va_sem.specs.Builtins.{Taken, string_fits}
use Rattle.va_tree.specs.Preorder.{expressions_in}
use Rattle.va_sem.specs.Faults.{least_of}
use Rattle.va_sem.specs.FaultsLaws.{earlier}
use Rattle.va_sem.specs.LookedAt.{looked_at, looked_at_in_arguments}
use Rattle.va_sem.specs.NamesFaults.{FaultAt}
use Rattle.va_sem.specs.Typing.{Typing, type_of, types_in, types_in_arguments, all_real, expression_fits}
use Rattle.va_sem.specs.TypesFaults.{expression_faults}
use Rattle.va_types.specs.declared.found.Found.{Found}

pub record Finds (types : List Ty) (faults : List FaultAt) (old new : Found) : Type 0 where
  pub types_are : new.types.items ≡ old.types.items ++ types
  pub least_is : new.least ≡ earlier old.least (least_of faults)

-- the type of an expression that is looked at is told, and the types and faults of those in it are found
pub record IsRead (t : Typing) (e : Expression) (old new : Found) (answer : Ty) : Type 0 where
  pub answer_is : answer ≡ type_of t e
  pub finds : Finds (types_in t e) (flat_map (expression_faults t) (looked_at e)) old new

-- The types of a call's arguments in order, of which the first of the list stands at a place: a string has none, and an argument that
-- isn't looked at is real.
abbrev pub types_given : Typing → (ℕ → Bool) → ℕ → Arguments → List (Option Ty)
types_given t looks place no_more = []
types_given t looks place (text_then text rest) = None ∷ types_given t looks (place + 1) rest
types_given t looks place (expression_then e rest) = Some (if looks place then type_of t e else Real) ∷ types_given t looks (place + 1) rest

-- the same of arguments
pub record AreRead (t : Typing) (looks : ℕ → Bool) (args : Arguments) (old new : Found) (answer : List (Option Ty)) : Type 0 where
  pub answer_is : answer ≡ types_given t looks 0 args
  pub finds : Finds (types_in_arguments t looks 0 args) (flat_map (expression_faults t) (looked_at_in_arguments looks 0 args)) old new

-- the same of one argument
abbrev pub in_argument : Arg → List Expression
in_argument (arg.Text text) = []
in_argument (arg.Expr e) = expressions_in (expression_of e)

abbrev pub type_given : Typing → Bool → Arg → Option Ty
type_given t looks (arg.Text text) = None
type_given t looks (arg.Expr e) = Some (if looks then type_of t (expression_of e) else Real)

abbrev pub types_in_argument : Typing → Bool → Arg → List Ty
types_in_argument t looks (arg.Text text) = []
types_in_argument t looks (arg.Expr e) = if looks then types_in t (expression_of e) else all_real (expressions_in (expression_of e))

abbrev pub looked_at_in_argument : Bool → Arg → List Expression
looked_at_in_argument looks (arg.Text text) = []
looked_at_in_argument looks (arg.Expr e) = if looks then looked_at (expression_of e) else []

pub record IsArgumentRead (t : Typing) (looks : Bool) (a : Arg) (old new : Found) (answer : Option Ty) : Type 0 where
  pub answer_is : answer ≡ type_given t looks a
  pub finds : Finds (types_in_argument t looks a) (flat_map (expression_faults t) (looked_at_in_argument looks a)) old new

-- whether an argument is of the kind that is taken at its place, and the fault where it isn't
abbrev pub kind_fits : List NameUse → Taken → Arg → Bool
kind_fits uses taken (arg.Text text) = string_fits taken
kind_fits uses taken (arg.Expr e) = expression_fits uses taken (expression_of e)

abbrev pub token_of : Arg → ℕ
token_of (arg.Text text) = text.at
token_of (arg.Expr e) = at_of (expression_of e)
