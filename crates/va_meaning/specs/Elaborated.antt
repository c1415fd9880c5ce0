-- What is known of a module before it is evaluated: what its names mean, what it declares, and its analogue blocks.
use Rattle.std.specs.Prelude.{ℕ, Bool, List, Option}
use Rattle.alg_laws.specs.declared.number.Ty.{Ty}
use Rattle.va_sem.specs.declared.branch.BranchKind.{BranchKind}
use Rattle.va_sem.specs.declared.branch.Unknown.{Unknown}
use Rattle.va_sem.specs.declared.names.BranchName.{BranchName}
use Rattle.va_sem.specs.declared.names.Meaning.{Meaning}
use Rattle.va_tree.specs.Expressions.{Expression}
use Rattle.va_tree.specs.Statements.{Statement}

-- an end of an interval: whether it belongs to the interval, and its value
pub record End : Type 0 where
  pub closed : Bool
  pub value : Expression

pub record Interval : Type 0 where
  pub low : End
  pub high : End

-- a condition on a parameter's value (Parameters)
pub data Range : Type 0 where
  from : Interval → Range
  exclude : Interval → Range
  exclude_value : Expression → Range

-- a parameter (Parameters): its type, whether it is a `localparam`, whether it may be given on an instance, its default, ranges
pub record Parameter : Type 0 where
  pub ty : Ty
  pub local : Bool
  pub of_instance : Bool
  pub default : Expression
  pub ranges : List Range

-- a variable and its initialiser
pub record Initialiser : Type 0 where
  pub variable : ℕ
  pub value : Expression

-- A function (User-defined analog functions) and the type of what it gives. Its arguments and its result are variables, and so
-- are those of its blocks, of which some have initialisers.
pub record Function : Type 0 where
  pub ty : Ty
  pub arguments : List ℕ
  pub result : ℕ
  pub initialisers : List Initialiser
  pub body : Statement

-- Nodes, branches, parameters, variables and functions are known by their numbers, that is by their places in order of
-- declaration. A name is known by the index of its token.
pub record Elaborated : Type 0 where
  -- what the name at a token means
  pub meaning : ℕ → Option Meaning
  pub type_of : Expression → Ty
  -- whether an expression may depend on an unknown
  pub is_biased : Expression → Bool
  pub parameters : List Parameter
  pub variable_type : ℕ → Ty
  -- of the variables of the module and of its blocks, but for those under `@(final_step)`, in order of declaration
  pub initialisers : List Initialiser
  pub functions : List Function
  pub branches : List BranchName
  pub kind : ℕ → BranchKind
  -- the collapsing branches, in the order of their first contributions
  pub collapsing : List ℕ
  pub unknowns : List Unknown
  -- the statements of the analogue blocks, in order
  pub blocks : List Statement
