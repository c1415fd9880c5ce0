-- The value of an expression, over any algebra (Expressions).
use Rattle.std.specs.Prelude.{ℕ, ◌+◌, Bool, true, false, not, pos, negsuc, if◌then◌else◌, List, [], ◌∷◌, Option, Some, length, get_or}
use Rattle.alg_laws.specs.declared.function.Fun1.TheVariants.{Exp}
use Rattle.alg_laws.specs.declared.number.Number.{Number}
use Rattle.alg_laws.specs.declared.number.Number.TheVariants.{Real, Int}
use Rattle.alg_laws.specs.LiteralValue.{literal_value}
use Rattle.alg_laws.specs.NumberOps.{truth, joined, to_real, converted, is_true, sum_of, difference_of, product_of, quotient_of, remainder_of, power_of, negative_of, is_less, is_at_most, is_same, contrary_of, absolute_of, minimum_of, maximum_of, fun1_of, fun2_of}
use Rattle.alg_laws.specs.Operations.{Operations}
use Rattle.alg_laws.specs.Outcome.{gives, ◌>>=◌}
use Rattle.va_base.specs.declared.exact.Decimal.{Decimal}
use Rattle.va_sem.specs.declared.builtin.Builtin.{Builtin}
use Rattle.va_sem.specs.declared.builtin.Builtin.TheVariants.{One, Two, Abs, Min, Max, LimExp, Ddt, LeftOut}
use Rattle.va_sem.specs.declared.builtin.SystemFunction.{SystemFunction}
use Rattle.va_sem.specs.declared.builtin.SystemFunction.TheVariants.{Temperature, ThermalVoltage, Limit, SimParam, ParamGiven}
use Rattle.va_sem.specs.declared.names.Meaning.{Meaning}
use Rattle.va_sem.specs.declared.names.Meaning.TheVariants.{Param, Var}
use Rattle.va_tree.specs.declared.expr.BinaryOp.{BinaryOp}
use Rattle.va_tree.specs.declared.expr.BinaryOp.TheVariants.{Or, And, Equal, NotEqual, Less, AtMost, Greater, AtLeast, Add, Subtract, Multiply, Divide, Remainder, Power}
use Rattle.va_tree.specs.declared.expr.UnaryOp.{UnaryOp}
use Rattle.va_tree.specs.declared.expr.UnaryOp.TheVariants.{Plus, Minus, Not}
use Rattle.va_tree.specs.Expressions.{Expression, Arguments, literal, infinity, name, group, unary, binary, choose, call, no_more, text_then, expression_then}
use Rattle.va_tree.specs.Preorder.{expressions_in}
use Rattle.va_meaning.specs.Called.{Called, builtin, system, function, access, none, called}
use Rattle.va_meaning.specs.Elaborated.{Elaborated}
use Rattle.va_meaning.specs.Points.{Context, Result, Store, told}
use Rattle.va_meaning.specs.Unknowns.{access_value}

-- What the functions of a module give, by their numbers and what each argument gives. Of these a call takes one after the
-- other, each converted before the next.
abbrev pub Functions : Type 0 → Type 0 → Type 0
Functions E V = ℕ → List (Result E V) → Result E V

-- What stands where no text of the language has a value: what has no type is real.
abbrev pub no_value : {V : Type 0} → Operations V → Number V
no_value o = Real o.zero

-- what the argument at a place gives
abbrev pub argument : {E V : Type 0} → Operations V → ℕ → List (Result E V) → Result E V
argument o i outs = get_or outs i (gives (no_value o))

-- how many places an expression has in the pre-order, those in it too
abbrev pub size : Expression → ℕ
size e = length (expressions_in e)

-- a numeral (Numbers)
abbrev pub numeral : {V : Type 0} → Operations V → Decimal → Bool → Number V
numeral o value true = Int (pos value.mantissa)
numeral o value false = Real (literal_value o value.mantissa value.power)

module _ {E V : Type 0} (c : Context E V) where
  abbrev pub unary_value : UnaryOp → Number V → Result E V
  unary_value Plus v = gives v
  unary_value Minus v = told c (negative_of c.ops v)
  unary_value Not v = gives (contrary_of c.ops v)

  -- The value of an operator (Operators), by its left side's value and by what its right side gives. `&&` and `||` ask for the
  -- right side only where the left one hasn't decided.
  abbrev pub binary_value : BinaryOp → Number V → Result E V → Result E V
  binary_value Or v right = if is_true c.ops v then gives (truth true) else (right >>= λ w. gives (truth (is_true c.ops w)))
  binary_value And v right = if is_true c.ops v then (right >>= λ w. gives (truth (is_true c.ops w))) else gives (truth false)
  binary_value Equal v right = right >>= λ w. gives (truth (is_same c.ops v w))
  binary_value NotEqual v right = right >>= λ w. gives (truth (not (is_same c.ops v w)))
  binary_value Less v right = right >>= λ w. gives (truth (is_less c.ops v w))
  binary_value AtMost v right = right >>= λ w. gives (truth (is_at_most c.ops v w))
  binary_value Greater v right = right >>= λ w. gives (truth (is_less c.ops w v))
  binary_value AtLeast v right = right >>= λ w. gives (truth (is_at_most c.ops w v))
  binary_value Add v right = right >>= λ w. told c (sum_of c.ops v w)
  binary_value Subtract v right = right >>= λ w. told c (difference_of c.ops v w)
  binary_value Multiply v right = right >>= λ w. told c (product_of c.ops v w)
  binary_value Divide v right = right >>= λ w. told c (quotient_of c.ops v w)
  binary_value Remainder v right = right >>= λ w. told c (remainder_of c.ops v w)
  binary_value Power v right = right >>= λ w. told c (power_of c.ops v w)

-- The thermal voltage at a temperature (Environment parameter functions): the Boltzmann constant, 1.380649e-23, times the
-- temperature, over the elementary charge, 1.602176634e-19.
abbrev pub thermal_voltage : {V : Type 0} → Operations V → V → V
thermal_voltage o t = o.product (o.product t (literal_value o 1380649 (negsuc 28))) (o.recip (literal_value o 1602176634 (negsuc 27)))

module _ {E V : Type 0} (M : Elaborated) (c : Context E V) where
  -- a name that stands by itself: a parameter or a variable
  abbrev pub named : Store V → Option Meaning → Number V
  named vars (Some (Param p)) = c.point.parameters p
  named vars (Some (Var x)) = vars x
  named vars m = no_value c.ops

  -- Built-in functions (Mathematical functions, Limited exponential, Time derivative operator). The limited exponential is the
  -- exponential. A call of a function that is left out is a numbered one: the context answers it, by what each argument gives.
  abbrev pub builtin_value : Builtin → ℕ → List (Result E V) → Result E V
  builtin_value (One f) place outs = argument c.ops 0 outs >>= λ v. gives (fun1_of c.ops f v)
  builtin_value (Two f) place outs = do
    v ← argument c.ops 0 outs
    w ← argument c.ops 1 outs
    gives (fun2_of c.ops f v w)
  builtin_value Abs place outs = argument c.ops 0 outs >>= λ v. told c (absolute_of c.ops v)
  builtin_value Min place outs = do
    v ← argument c.ops 0 outs
    w ← argument c.ops 1 outs
    gives (minimum_of c.ops v w)
  builtin_value Max place outs = do
    v ← argument c.ops 0 outs
    w ← argument c.ops 1 outs
    gives (maximum_of c.ops v w)
  builtin_value LimExp place outs = argument c.ops 0 outs >>= λ v. gives (fun1_of c.ops Exp v)
  builtin_value Ddt place outs = argument c.ops 0 outs >>= λ v. gives (Real (c.ops.product c.derivative (to_real c.ops v)))
  builtin_value LeftOut place outs = c.answers place outs >>= λ x. gives (Real x)

  -- whether the parameter that is named was given
  abbrev pub given_name : Option Meaning → Bool
  given_name (Some (Param p)) = c.point.given p
  given_name m = false

  abbrev pub given_argument : Arguments → Bool
  given_argument (expression_then (name at bytes) rest) = given_name (M.meaning at)
  given_argument args = false

  -- `$vt` without an argument is at the temperature of the point
  abbrev pub thermal_value : List (Result E V) → Result E V
  thermal_value [] = gives (Real (thermal_voltage c.ops c.point.temperature))
  thermal_value (out ∷ outs) = out >>= λ v. gives (Real (thermal_voltage c.ops (to_real c.ops v)))

  -- System functions (Environment parameter functions). `$limit` is its first argument, and `$simparam` its second.
  abbrev pub system_value : SystemFunction → Arguments → List (Result E V) → Result E V
  system_value Temperature args outs = gives (Real c.point.temperature)
  system_value ThermalVoltage args outs = thermal_value outs
  system_value Limit args outs = argument c.ops 0 outs
  system_value SimParam args outs = argument c.ops 1 outs
  system_value ParamGiven args outs = gives (truth (given_argument args))

  -- a call at a place, by its arguments and by what each of them gives
  abbrev pub call_value : Functions E V → Called → ℕ → Arguments → List (Result E V) → Result E V
  call_value F (builtin b) place args outs = builtin_value b place outs
  call_value F (system s) place args outs = system_value s args outs
  call_value F (function f) place args outs = F f outs
  call_value F (access b turned flow) place args outs = gives (Real (access_value M c.ops c.point b turned flow))
  call_value F none place args outs = gives (no_value c.ops)

module _ {E V : Type 0} (M : Elaborated) (c : Context E V) (F : Functions E V) where
  abbrev mutual
    -- The value of an expression at a place of the pre-order. `?:` evaluates the arm that it chooses, and its type is that of
    -- both arms together. `inf` stands only in bounds.
    pub value_of : ℕ → Expression → Store V → Result E V
    value_of place (literal at value integer) vars = gives (numeral c.ops value integer)
    value_of place (infinity at) vars = gives (no_value c.ops)
    value_of place (name at bytes) vars = gives (named M c vars (M.meaning at))
    value_of place (group at inner) vars = value_of (place + 1) inner vars
    value_of place (unary at op operand) vars = value_of (place + 1) operand vars >>= unary_value c op
    value_of place (binary at left op right) vars = do
      v ← value_of (place + 1) left vars
      binary_value c op v (value_of (place + 1 + size left) right vars)
    value_of place (choose at test a b) vars = do
      t ← value_of (place + 1) test vars
      v ← if is_true c.ops t then value_of (place + 1 + size test) a vars else value_of (place + 1 + size test + size a) b vars
      told c (converted c.ops (joined (M.type_of a) (M.type_of b)) v)
    value_of place (call at callee bytes args) vars =
        call_value M c F (called (M.meaning at) callee bytes) place args (outcomes_of (place + 1) args vars)

    -- what each argument gives; a string has no value
    pub outcomes_of : ℕ → Arguments → Store V → List (Result E V)
    outcomes_of place no_more vars = []
    outcomes_of place (text_then text rest) vars = gives (no_value c.ops) ∷ outcomes_of place rest vars
    outcomes_of place (expression_then e rest) vars = value_of place e vars ∷ outcomes_of (place + size e) rest vars
