-- What holds of the types of values, in every evaluation over every algebra.
use Rattle.std.specs.Prelude.{◌≡◌, ℕ}
use Rattle.alg_laws.specs.declared.number.Number.{Number}
use Rattle.alg_laws.specs.NumberOps.{type_of as type_of_number}
use Rattle.alg_laws.specs.declared.number.Reason.{Reason}
use Rattle.alg_laws.specs.Operations.{Operations}
use Rattle.alg_laws.specs.Outcome.{gives}
use Rattle.va_sem.specs.Typing.{Typing, type_of}
use Rattle.va_tree.specs.Expressions.{Expression}
use Rattle.va_meaning.specs.Elaborated.{Elaborated}
use Rattle.va_meaning.specs.Evaluation.{evaluated, functions}
use Rattle.va_meaning.specs.Points.{Point, Answers, Store, State, over}
use Rattle.va_meaning.specs.Types.{HasTyping, IsTypedPoint, IsTypedStore, HasNoTypeFault}
use Rattle.va_meaning.specs.Values.{value_of}

pub record TypesOfValues (E V : Type 0) (o : Operations V) (valid : V → Type 0) : Type 0 where
  -- An expression without a fault of types has a value of its type, wherever parameters and variables have values of theirs.
  pub expressions : (M : Elaborated) (t : Typing) → HasTyping M t → (s : V) (P : Point V) (n : ℕ) (stops : Reason → E) (answers : Answers E V) → IsTypedPoint t P
      → (place : ℕ) (e : Expression) → HasNoTypeFault t e → (vars : Store V) → IsTypedStore M vars → (v : Number V)
      → value_of M (over o s P n stops answers) (functions M (over o s P n stops answers)) place e vars ≡ gives v → type_of_number v ≡ type_of t e
  -- An evaluation ends with each variable at a value of its type.
  pub variables : (M : Elaborated) (s : V) (P : Point V) (n : ℕ) (stops : Reason → E) (answers : Answers E V) (last : State V)
      → evaluated M (over o s P n stops answers) ≡ gives last → IsTypedStore M last.variables
