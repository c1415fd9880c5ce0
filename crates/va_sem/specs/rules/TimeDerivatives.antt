-- Where time derivatives may stand (Time derivative operator). This profile takes them at linear places alone, and not under
-- biased conditions, in loops or in functions. Each rule is the list of the tokens at which it is broken.
use Rattle.std.specs.Prelude.{ℕ, ◌&&◌, Bool, true, false, not, List, [], ◌∷◌, ◌++◌, Option, Some, if◌then◌else◌, map, filter, flat_map, get_or}
use Rattle.std.specs.List.{list_any}
use Rattle.alg_laws.specs.declared.number.Ty.TheVariants.{Real}
use Rattle.va_tree.specs.declared.expr.UnaryOp.{UnaryOp}
use Rattle.va_tree.specs.declared.expr.UnaryOp.TheVariants.{Plus, Minus, Not}
use Rattle.va_tree.specs.declared.expr.BinaryOp.{BinaryOp}
use Rattle.va_tree.specs.declared.expr.BinaryOp.TheVariants.{Add, Subtract, Multiply, Divide}
use Rattle.va_tree.specs.Expressions.{Expression, literal, infinity, name, group, unary, binary, choose, call, at_of}
use Rattle.va_tree.specs.Statements.{Statement}
use Rattle.va_sem.specs.declared.names.Meaning.{Meaning}
use Rattle.va_sem.specs.declared.names.Meaning.TheVariants as means
use Rattle.va_sem.specs.Typing.{Typing}
use Rattle.va_sem.specs.rules.Uses.{meaning_of, is_ddt, arguments_of_call, is_integer}
use Rattle.va_sem.specs.rules.Values.{Purpose, assigned, contributed, tested, initial, Value, evaluated, values_of}
use Rattle.va_sem.specs.rules.Biased.{Analysis, is_biased, is_timed}

module _ (types : Typing) (a : Analysis) where
  abbrev biased : Expression → Bool
  biased = is_biased a.meaning a.biased

  abbrev timed : Expression → Bool
  timed = is_timed a.meaning a.timed

  -- an expression beside which a factor may be timed: a fixed one that isn't timed itself
  abbrev pub is_plain : Expression → Bool
  is_plain e = not (biased e) && not (timed e)

  abbrev unless_plain : Expression → Expression → List Expression
  unless_plain other e = if is_plain other then [] else e ∷ []

  -- The operands that may not be timed: others than the sides of `+` and `-`, a factor beside a plain one, and a numerator over
  -- a plain denominator.
  abbrev strict_operands : BinaryOp → Expression → Expression → List Expression
  strict_operands Add left right = []
  strict_operands Subtract left right = []
  strict_operands Multiply left right = unless_plain right left ++ unless_plain left right
  strict_operands Divide left right = unless_plain right left ++ right ∷ []
  strict_operands _ left right = left ∷ right ∷ []

  abbrev strict_operand : UnaryOp → Expression → List Expression
  strict_operand Plus operand = []
  strict_operand Minus operand = []
  strict_operand Not operand = operand ∷ []

  -- The parts of an expression that may not be timed. Of `?:` it is the condition. The argument of `ddt` has a rule of its own.
  abbrev pub strict_parts : Expression → List Expression
  strict_parts (literal at value integer) = []
  strict_parts (infinity at) = []
  strict_parts (name at bytes) = []
  strict_parts (group at inner) = []
  strict_parts (unary at op operand) = strict_operand op operand
  strict_parts (binary at left op right) = strict_operands op left right
  strict_parts (choose at test first second) = test ∷ []
  strict_parts (call at callee bytes args) =
      if is_ddt (a.meaning at) then [] else arguments_of_call callee bytes args

  abbrev pub is_integer_variable : Option Meaning → Bool
  is_integer_variable (Some (means.Var variable)) = is_integer (get_or types.variables variable Real)
  is_integer_variable _ = false

  -- whole values may be timed where they are contributed or assigned to real variables
  abbrev may_be_timed : Purpose → Bool
  may_be_timed (assigned at) = not (is_integer_variable (a.meaning at))
  may_be_timed (contributed at) = true
  may_be_timed tested = false
  may_be_timed initial = false

  abbrev pub strict_value : Value → List Expression
  strict_value v = if may_be_timed v.purpose then [] else v.expression ∷ []

  -- a timed expression at a place where none may stand
  abbrev pub ddt_nonlinear : List ℕ
  ddt_nonlinear = map at_of (filter timed (flat_map strict_parts (evaluated a.values) ++ flat_map strict_value a.values))

  abbrev is_right_side : Purpose → Bool
  is_right_side (assigned at) = true
  is_right_side (contributed at) = true
  is_right_side tested = false
  is_right_side initial = false

  -- the arms of `?:` under a biased condition
  abbrev pub biased_arms : Expression → List Expression
  biased_arms (choose at test first second) = if biased test then first ∷ second ∷ [] else []
  biased_arms _ = []

  -- right sides under some condition that is biased, and those in loops
  abbrev pub biased_right_side : Value → List Expression
  biased_right_side v = if is_right_side v.purpose && list_any biased v.around.conditions then v.expression ∷ [] else []

  abbrev pub looped_right_side : Value → List Expression
  looped_right_side v = if is_right_side v.purpose && v.around.in_loop then v.expression ∷ [] else []

  -- a timed right side, or a timed arm of `?:`, under a biased condition
  abbrev pub ddt_under_bias : List ℕ
  ddt_under_bias = map at_of (filter timed (flat_map biased_right_side a.values ++ flat_map biased_arms (evaluated a.values)))

  -- a timed right side in a loop, its head included
  abbrev pub ddt_in_loop : List ℕ
  ddt_in_loop = map at_of (filter timed (flat_map looped_right_side a.values))

  abbrev pub arguments_of_ddt : Expression → List Expression
  arguments_of_ddt (call at callee bytes args) =
      if is_ddt (a.meaning at) then arguments_of_call callee bytes args else []
  arguments_of_ddt _ = []

  -- a timed argument of `ddt`
  abbrev pub ddt_twice : List ℕ
  ddt_twice = map at_of (filter timed (flat_map arguments_of_ddt (evaluated a.values)))

  -- `ddt` in a function, by the statements of all
  abbrev pub ddt_in_function : List Statement → List ℕ
  ddt_in_function functions =
      map at_of (filter (λ e. is_ddt (meaning_of a.meaning e)) (evaluated (values_of functions)))
