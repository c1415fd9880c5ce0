-- What holds time derivatives, and at which places these stand (Time derivative operator). This profile tells it by timed variables:
-- a module keeps to a set of them.
use Rattle.std.specs.Prelude.{◌≡◌, ℕ, Bool, true, false, List, [], ◌∷◌, Option, Some, None}
use Rattle.std.specs.List.{slice_get}
use Rattle.alg_laws.specs.declared.number.Ty.{Ty}
use Rattle.alg_laws.specs.declared.number.Ty.TheVariants.{Integer, Real}
use Rattle.va_sem.specs.declared.builtin.Builtin.TheVariants.{Ddt}
use Rattle.va_sem.specs.declared.builtin.SystemFunction.TheVariants.{Limit}
use Rattle.va_sem.specs.declared.names.Meaning.{Meaning}
use Rattle.va_sem.specs.declared.names.Meaning.TheVariants.{Var}
use Rattle.va_sem.specs.Lookup.{Bytes}
use Rattle.va_sem.specs.rules.Values.{Purpose, assigned, contributed, tested, initial}
use Rattle.va_tree.specs.declared.expr.BinaryOp.TheVariants.{Add, Subtract, Multiply, Divide}
use Rattle.va_tree.specs.declared.expr.Callee.{Callee}
use Rattle.va_tree.specs.declared.expr.UnaryOp.TheVariants.{Plus, Minus}
use Rattle.va_tree.specs.Expressions.{Expression, Arguments, literal, infinity, name, group, unary, binary, choose, call, no_more, text_then, expression_then}
use Rattle.va_meaning.specs.Bias.{IsFixed}
use Rattle.va_meaning.specs.Called.{Called, builtin, system, function, access, none, called}
use Rattle.va_meaning.specs.EachValue.{EachValue, EachValueOfBlocks}
use Rattle.va_meaning.specs.Elaborated.{Elaborated, Initialiser, Function}

-- A call is untimed where it is no `ddt` and the arguments that are looked at are untimed: of `$limit` the first alone. An access is.
abbrev pub IsCallUntimed : Called → Type 0 → Type 0 → Type 0
IsCallUntimed (builtin Ddt) first all = ⊥
IsCallUntimed (builtin b) first all = all
IsCallUntimed (system Limit) first all = first
IsCallUntimed (system s) first all = all
IsCallUntimed (function f) first all = all
IsCallUntimed (access b turned flow) first all = Unit {0}
IsCallUntimed none first all = Unit {0}

module _ (M : Elaborated) (timed : ℕ → Bool) where
  abbrev pub IsNameUntimed : Option Meaning → Type 0
  IsNameUntimed (Some (Var x)) = timed x ≡ false
  IsNameUntimed m = Unit {0}

  abbrev mutual
    -- An expression is untimed: what of it is looked at holds no `ddt` and no timed variable.
    pub IsUntimed : Expression → Type 0
    IsUntimed (literal at value integer) = Unit {0}
    IsUntimed (infinity at) = Unit {0}
    IsUntimed (name at bytes) = IsNameUntimed (M.meaning at)
    IsUntimed (group at inner) = IsUntimed inner
    IsUntimed (unary at op operand) = IsUntimed operand
    IsUntimed (binary at left op right) = IsUntimed left × IsUntimed right
    IsUntimed (choose at test a b) = IsUntimed test × IsUntimed a × IsUntimed b
    IsUntimed (call at callee bytes args) = IsCallUntimed (called (M.meaning at) callee bytes) (IsFirstUntimed args) (AreUntimed args)

    pub AreUntimed : Arguments → Type 0
    AreUntimed no_more = Unit {0}
    AreUntimed (text_then text rest) = AreUntimed rest
    AreUntimed (expression_then e rest) = IsUntimed e × AreUntimed rest

    pub IsFirstUntimed : Arguments → Type 0
    IsFirstUntimed no_more = Unit {0}
    IsFirstUntimed (text_then text rest) = Unit {0}
    IsFirstUntimed (expression_then e rest) = IsUntimed e

  abbrev pub InitialisersUntimed : List Initialiser → Type 0
  InitialisersUntimed [] = Unit {0}
  InitialisersUntimed (i ∷ rest) = IsUntimed i.value × InitialisersUntimed rest

  -- What is assigned to a variable that isn't timed is untimed.
  abbrev pub AssignmentKeepsTime : Option Meaning → Expression → Type 0
  AssignmentKeepsTime (Some (Var x)) e = timed x ≡ false → IsUntimed e
  AssignmentKeepsTime m e = Unit {0}

  abbrev pub ValueKeepsTime : Bool → Purpose → Expression → Type 0
  ValueKeepsTime here (assigned at) e = AssignmentKeepsTime (M.meaning at) e
  ValueKeepsTime here (contributed at) e = Unit {0}
  ValueKeepsTime here tested e = Unit {0}
  ValueKeepsTime here initial e = Unit {0}

-- Nothing in a function holds `ddt`.
abbrev pub HoldsNoDdt : Elaborated → Bool → Purpose → Expression → Type 0
HoldsNoDdt M here purpose e = IsUntimed M (λ x. false) e

abbrev pub FunctionHoldsNoDdt : Elaborated → Option Function → Type 0
FunctionHoldsNoDdt M None = Unit {0}
FunctionHoldsNoDdt M (Some f) = InitialisersUntimed M (λ x. false) f.initialisers × EachValue M (HoldsNoDdt M) false f.body

-- A module keeps to a set of timed variables: initialisers and functions hold no `ddt`, and what is assigned to a variable outside
-- of the set is untimed.
pub record KeepsToTime (M : Elaborated) (timed : ℕ → Bool) : Type 0 where
  pub initialisers : InitialisersUntimed M (λ x. false) M.initialisers
  pub functions : (f : ℕ) → FunctionHoldsNoDdt M (slice_get M.functions f)
  pub blocks : EachValueOfBlocks M (ValueKeepsTime M timed) M.blocks

-- A plain expression is fixed and untimed.
abbrev pub IsPlain : Elaborated → (ℕ → Bool) → (ℕ → Bool) → Expression → Type 0
IsPlain M biased timed e = IsFixed M biased e × IsUntimed M timed e

-- An expression is linear in time derivatives: it is untimed; a variable; `ddt` of what is untimed; or made of linear ones by
-- parentheses, signs, sums, differences, plain factors, plain denominators, and a choice by a plain condition.
pub data IsLinear (M : Elaborated) (biased timed : ℕ → Bool) : Expression → Type 0 where
  untimed : {e : Expression} → IsUntimed M timed e → IsLinear M biased timed e
  variable : {at : ℕ} {bytes : Bytes} → IsLinear M biased timed (name at bytes)
  derivative : {at : ℕ} {callee : Callee} {bytes : Bytes} {args : Arguments} → called (M.meaning at) callee bytes ≡ builtin Ddt
      → AreUntimed M timed args → IsLinear M biased timed (call at callee bytes args)
  parentheses : {at : ℕ} {inner : Expression} → IsLinear M biased timed inner → IsLinear M biased timed (group at inner)
  plus : {at : ℕ} {operand : Expression} → IsLinear M biased timed operand → IsLinear M biased timed (unary at Plus operand)
  minus : {at : ℕ} {operand : Expression} → IsLinear M biased timed operand → IsLinear M biased timed (unary at Minus operand)
  sum : {at : ℕ} {left right : Expression} → IsLinear M biased timed left → IsLinear M biased timed right
      → IsLinear M biased timed (binary at left Add right)
  difference : {at : ℕ} {left right : Expression} → IsLinear M biased timed left → IsLinear M biased timed right
      → IsLinear M biased timed (binary at left Subtract right)
  plain_times : {at : ℕ} {left right : Expression} → IsPlain M biased timed left → IsLinear M biased timed right
      → IsLinear M biased timed (binary at left Multiply right)
  times_plain : {at : ℕ} {left right : Expression} → IsLinear M biased timed left → IsPlain M biased timed right
      → IsLinear M biased timed (binary at left Multiply right)
  over_plain : {at : ℕ} {left right : Expression} → IsLinear M biased timed left → IsPlain M biased timed right
      → IsLinear M biased timed (binary at left Divide right)
  chosen : {at : ℕ} {test a b : Expression} → IsPlain M biased timed test → IsLinear M biased timed a → IsLinear M biased timed b
      → IsLinear M biased timed (choose at test a b)

module _ (M : Elaborated) (biased timed : ℕ → Bool) where
  -- A right side is linear, and untimed under a biased condition and in a loop.
  abbrev pub RightSide : Bool → Expression → Type 0
  RightSide true e = IsUntimed M timed e
  RightSide false e = IsLinear M biased timed e

  -- What is assigned to an integer variable is untimed.
  abbrev pub OfType : Ty → Bool → Expression → Type 0
  OfType Integer here e = IsUntimed M timed e
  OfType Real here e = RightSide here e

  abbrev pub AssignmentIsLinear : Option Meaning → Bool → Expression → Type 0
  AssignmentIsLinear (Some (Var x)) here e = OfType (M.variable_type x) here e
  AssignmentIsLinear m here e = RightSide here e

  -- and so is what is tested
  abbrev pub ValueIsLinear : Bool → Purpose → Expression → Type 0
  ValueIsLinear here (assigned at) e = AssignmentIsLinear (M.meaning at) here e
  ValueIsLinear here (contributed at) e = RightSide here e
  ValueIsLinear here tested e = IsUntimed M timed e
  ValueIsLinear here initial e = IsUntimed M timed e

-- The time derivatives of a module stand at linear places alone.
abbrev pub HasLinearTime : Elaborated → (ℕ → Bool) → (ℕ → Bool) → Type 0
HasLinearTime M biased timed = EachValueOfBlocks M (ValueIsLinear M biased timed) M.blocks
