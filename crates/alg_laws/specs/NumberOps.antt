-- The operators and conversions on values of both types (Operators, Mathematical functions, Real to integer conversion, Integer
-- to real conversion), over any algebra.
use Rattle.std.specs.Prelude.{Bool, true, false, not, ℤ, pos, int_lt, int_le, if◌then◌else◌}
use Rattle.alg_laws.specs.declared.function.Fun1.{Fun1}
use Rattle.alg_laws.specs.declared.function.Fun2.{Fun2}
use Rattle.alg_laws.specs.declared.function.Fun2.TheVariants.{Pow}
use Rattle.alg_laws.specs.declared.number.Number.{Number}
use Rattle.alg_laws.specs.declared.number.Number.TheVariants.{Real, Int}
use Rattle.alg_laws.specs.declared.number.Reason.{Reason}
use Rattle.alg_laws.specs.declared.number.Ty.{Ty}
use Rattle.alg_laws.specs.declared.number.Ty.TheVariants.{Integer, Real as RealTy}
use Rattle.alg_laws.specs.IntegerOps.{ranged, int_sum, int_difference, int_product, int_negative, int_quotient, int_remainder, int_same, int_absolute, int_minimum, int_maximum}
use Rattle.alg_laws.specs.LiteralValue.{whole_value}
use Rattle.alg_laws.specs.Operations.{Operations}
use Rattle.alg_laws.specs.Outcome.{Outcome, gives, ◌>>=◌}

-- an integer as a value
abbrev pub as_int : {V : Type 0} → Outcome Reason ℤ → Outcome Reason (Number V)
as_int r = do
  i ← r
  gives (Int i)

-- What a comparison gives: 1 where it holds, else 0.
abbrev pub truth : {V : Type 0} → Bool → Number V
truth true = Int (pos 1)
truth false = Int (pos 0)

-- The type that two operands have together: integer where both are.
abbrev pub joined : Ty → Ty → Ty
joined Integer Integer = Integer
joined Integer RealTy = RealTy
joined RealTy t = RealTy

abbrev pub type_of : {V : Type 0} → Number V → Ty
type_of (Real x) = RealTy
type_of (Int i) = Integer

-- a value of a type, with nothing in it
abbrev pub zero_of : {V : Type 0} → Operations V → Ty → Number V
zero_of o Integer = Int (pos 0)
zero_of o RealTy = Real o.zero

module _ {V : Type 0} (o : Operations V) where
  -- A value in a real place.
  abbrev pub to_real : Number V → V
  to_real (Real x) = x
  to_real (Int i) = whole_value o i

  -- A value in an integer place, undefined outside the 32 bits.
  abbrev pub to_integer : Number V → Outcome Reason ℤ
  to_integer (Real x) = ranged (o.near x)
  to_integer (Int i) = gives i

  -- A value in a place of a type.
  abbrev pub converted : Ty → Number V → Outcome Reason (Number V)
  converted Integer v = as_int (to_integer v)
  converted RealTy v = gives (Real (to_real v))

  -- Whether a value is true: a real that isn't the same as 0, an integer that isn't 0.
  abbrev pub is_true : Number V → Bool
  is_true (Real x) = not (o.same x o.zero)
  is_true (Int i) = not (int_same i (pos 0))

  -- By integers where both sides are, else by reals.
  abbrev pub by_type : {R : Type 0} → (ℤ → ℤ → R) → (V → V → R) → Number V → Number V → R
  by_type f g (Int i) (Int j) = f i j
  by_type f g (Int i) (Real y) = g (whole_value o i) y
  by_type f g (Real x) (Int j) = g x (whole_value o j)
  by_type f g (Real x) (Real y) = g x y

  -- v + w, v - w, v * w, v / w
  abbrev pub sum_of : Number V → Number V → Outcome Reason (Number V)
  sum_of = by_type (λ i j. as_int (int_sum i j)) (λ x y. gives (Real (o.sum x y)))

  abbrev pub difference_of : Number V → Number V → Outcome Reason (Number V)
  difference_of = by_type (λ i j. as_int (int_difference i j)) (λ x y. gives (Real (o.sum x (o.negative y))))

  abbrev pub product_of : Number V → Number V → Outcome Reason (Number V)
  product_of = by_type (λ i j. as_int (int_product i j)) (λ x y. gives (Real (o.product x y)))

  abbrev pub quotient_of : Number V → Number V → Outcome Reason (Number V)
  quotient_of = by_type (λ i j. as_int (int_quotient i j)) (λ x y. gives (Real (o.product x (o.recip y))))

  -- v % w, of two integers; no text of the language has it with a real side.
  abbrev pub remainder_of : Number V → Number V → Outcome Reason (Number V)
  remainder_of = by_type (λ i j. as_int (int_remainder i j)) (λ x y. gives (Int (pos 0)))

  -- v ** w is the function pow, of two integers too.
  abbrev pub power_of : Number V → Number V → Outcome Reason (Number V)
  power_of v w = gives (Real (o.fun2 Pow (to_real v) (to_real w)))

  -- -v
  abbrev pub negative_of : Number V → Outcome Reason (Number V)
  negative_of (Real x) = gives (Real (o.negative x))
  negative_of (Int i) = as_int (int_negative i)

  -- v < w, v <= w, v == w
  abbrev pub is_less : Number V → Number V → Bool
  is_less = by_type int_lt o.less

  abbrev pub is_at_most : Number V → Number V → Bool
  is_at_most = by_type int_le o.at_most

  abbrev pub is_same : Number V → Number V → Bool
  is_same = by_type int_same o.same

  -- !v
  abbrev pub contrary_of : Number V → Number V
  contrary_of v = truth (not (is_true v))

  -- v && w and v || w, which ask for w only where v hasn't decided
  abbrev pub both_of : Number V → Outcome Reason (Number V) → Outcome Reason (Number V)
  both_of v right = if is_true v then (do w ← right; gives (truth (is_true w))) else gives (truth false)

  abbrev pub either_of : Number V → Outcome Reason (Number V) → Outcome Reason (Number V)
  either_of v right = if is_true v then gives (truth true) else (do w ← right; gives (truth (is_true w)))

  -- abs(v) is v > 0 ? v : -v
  abbrev pub absolute_of : Number V → Outcome Reason (Number V)
  absolute_of (Real x) = gives (Real (if o.less o.zero x then x else o.negative x))
  absolute_of (Int i) = as_int (int_absolute i)

  -- min(v, w) is v < w ? v : w
  abbrev pub minimum_of : Number V → Number V → Number V
  minimum_of = by_type (λ i j. Int (int_minimum i j)) (λ x y. Real (if o.less x y then x else y))

  -- max(v, w) is v > w ? v : w
  abbrev pub maximum_of : Number V → Number V → Number V
  maximum_of = by_type (λ i j. Int (int_maximum i j)) (λ x y. Real (if o.less y x then x else y))

  -- the named functions, which take and give reals
  abbrev pub fun1_of : Fun1 → Number V → Number V
  fun1_of f v = Real (o.fun1 f (to_real v))

  abbrev pub fun2_of : Fun2 → Number V → Number V → Number V
  fun2_of f v w = Real (o.fun2 f (to_real v) (to_real w))
