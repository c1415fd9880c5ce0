-- Dual numbers over an algebra: a value, and how it moves with what is varied.
use Rattle.std.specs.Prelude.{◌≡◌}
use Rattle.alg_laws.specs.declared.function.Fun1.{Fun1}
use Rattle.alg_laws.specs.declared.function.Fun1.TheVariants.{Exp, Ln, Log, Sqrt, Sin, Cos, Tan, Asin, Acos, Atan, Sinh, Cosh, Tanh, Asinh, Acosh, Atanh, Floor, Ceil}
use Rattle.alg_laws.specs.declared.function.Fun2.{Fun2}
use Rattle.alg_laws.specs.declared.function.Fun2.TheVariants.{Pow, Atan2, Hypot}
use Rattle.alg_laws.specs.declared.dual.Dual.{Dual}
use Rattle.alg_laws.specs.Operations.{Operations, copies}

-- The derivative of a named function of one argument at x (Mathematical functions). Powers are written as products and
-- quotients by reciprocals; ln 10 is the function ln at ten copies of 1. The steps of `floor` and `ceil` have none.
abbrev pub slope : {V : Type 0} → Operations V → Fun1 → V → V
slope o Exp x = o.fun1 Exp x
slope o Ln x = o.recip x
slope o Log x = o.recip (o.product x (o.fun1 Ln (copies o 10)))
slope o Sqrt x = o.recip (o.product (copies o 2) (o.fun1 Sqrt x))
slope o Sin x = o.fun1 Cos x
slope o Cos x = o.negative (o.fun1 Sin x)
slope o Tan x = o.sum o.one (o.product (o.fun1 Tan x) (o.fun1 Tan x))
slope o Asin x = o.recip (o.fun1 Sqrt (o.sum o.one (o.negative (o.product x x))))
slope o Acos x = o.negative (o.recip (o.fun1 Sqrt (o.sum o.one (o.negative (o.product x x)))))
slope o Atan x = o.recip (o.sum o.one (o.product x x))
slope o Sinh x = o.fun1 Cosh x
slope o Cosh x = o.fun1 Sinh x
slope o Tanh x = o.sum o.one (o.negative (o.product (o.fun1 Tanh x) (o.fun1 Tanh x)))
slope o Asinh x = o.recip (o.fun1 Sqrt (o.sum (o.product x x) o.one))
slope o Acosh x = o.recip (o.fun1 Sqrt (o.sum (o.product x x) (o.negative o.one)))
slope o Atanh x = o.recip (o.sum o.one (o.negative (o.product x x)))
slope o Floor x = o.zero
slope o Ceil x = o.zero

-- The derivative of a named function of two arguments in its first argument. That of atan2 is y, the ordinate.
abbrev pub slope_first : {V : Type 0} → Operations V → Fun2 → V → V → V
slope_first o Pow x y = o.product y (o.fun2 Pow x (o.sum y (o.negative o.one)))
slope_first o Atan2 y x = o.product x (o.recip (o.sum (o.product x x) (o.product y y)))
slope_first o Hypot x y = o.product x (o.recip (o.fun2 Hypot x y))

-- And in its second argument. That of atan2 is x, the abscissa.
abbrev pub slope_second : {V : Type 0} → Operations V → Fun2 → V → V → V
slope_second o Pow x y = o.product (o.fun1 Ln x) (o.fun2 Pow x y)
slope_second o Atan2 y x = o.product (o.negative y) (o.recip (o.sum (o.product x x) (o.product y y)))
slope_second o Hypot x y = o.product y (o.recip (o.fun2 Hypot x y))

-- The operations on dual numbers. The mains go as the algebra below, and so do the comparisons, which a small part doesn't
-- turn. The parts go by the rules of sums, products and quotients, and by the chain rule with the derivatives above.
abbrev pub dual : {V : Type 0} → Operations V → Operations (Dual V)
dual {V} o = record {
  zero = record { main = o.zero; part = o.zero };
  one = record { main = o.one; part = o.zero };
  sum = λ x y. record { main = o.sum x.main y.main; part = o.sum x.part y.part };
  negative = λ x. record { main = o.negative x.main; part = o.negative x.part };
  product = λ x y. record {
    main = o.product x.main y.main;
    part = o.sum (o.product x.main y.part) (o.product x.part y.main);
  };
  recip = λ x. record {
    main = o.recip x.main;
    part = o.product (o.product (o.negative x.part) (o.recip x.main)) (o.recip x.main);
  };
  fun1 = λ f x. record { main = o.fun1 f x.main; part = o.product (slope o f x.main) x.part };
  fun2 = λ f x y. record {
    main = o.fun2 f x.main y.main;
    part = o.sum (o.product (slope_first o f x.main y.main) x.part) (o.product (slope_second o f x.main y.main) y.part);
  };
  less = λ x y. o.less x.main y.main;
  at_most = λ x y. o.at_most x.main y.main;
  same = λ x y. o.same x.main y.main;
  near = λ x. o.near x.main;
}

-- A dual number is valid where both its values are.
abbrev pub dual_valid : {V : Type 0} → (V → Type 0) → Dual V → Type 0
dual_valid valid x = valid x.main × valid x.part

-- It is a unit where its main is.
abbrev pub dual_unit : {V : Type 0} → (V → Type 0) → Dual V → Type 0
dual_unit unit x = unit x.main

-- A value that doesn't move.
abbrev pub lift : {V : Type 0} → Operations V → V → Dual V
lift o x = record { main = x; part = o.zero }

-- Operations on values that don't move give values that don't.
pub record LiftsAreKept (V : Type 0) (o : Operations V) (valid : V → Type 0) : Type 0 where
  pub zero : (dual o).zero ≡ lift o o.zero
  pub one : (dual o).one ≡ lift o o.one
  pub sum : (x y : V) → (dual o).sum (lift o x) (lift o y) ≡ lift o (o.sum x y)
  pub negative : (x : V) → (dual o).negative (lift o x) ≡ lift o (o.negative x)
  pub product : (x y : V) → valid x → valid y → (dual o).product (lift o x) (lift o y) ≡ lift o (o.product x y)
  pub recip : (x : V) → valid x → (dual o).recip (lift o x) ≡ lift o (o.recip x)
  pub fun1 : (f : Fun1) (x : V) → valid x → (dual o).fun1 f (lift o x) ≡ lift o (o.fun1 f x)
  pub fun2 : (f : Fun2) (x y : V) → valid x → valid y → (dual o).fun2 f (lift o x) (lift o y) ≡ lift o (o.fun2 f x y)
