-- Algebras: the values that the real expressions of the language range over, their operations, and the laws that these keep.
use Rattle.std.specs.Prelude.{◌≡◌, ℕ, zero, suc, Bool, ℤ}
use Rattle.alg_laws.specs.declared.function.Fun1.{Fun1}
use Rattle.alg_laws.specs.declared.function.Fun2.{Fun2}

-- The operations on the values V, with no law. A difference x - y is the sum of x and the negative of y, and a quotient x / y
-- the product of x and the reciprocal of y (Operators). `fun1` and `fun2` are the functions of Mathematical
-- functions. `less`, `at_most` and `same` answer the comparisons (Operators): x > y is
-- `less y x`, x >= y is `at_most y x`, and x != y is the contrary of `same x y`. `near` is the whole number that a real becomes
-- in an integer place (Real to integer conversion).
pub record Operations (V : Type 0) : Type 0 where
  pub zero : V
  pub one : V
  pub sum : V → V → V
  pub negative : V → V
  pub product : V → V → V
  pub recip : V → V
  pub fun1 : Fun1 → V → V
  pub fun2 : Fun2 → V → V → V
  pub less : V → V → Bool
  pub at_most : V → V → Bool
  pub same : V → V → Bool
  pub near : V → ℤ

-- What is known of them: each operation on valid values gives a valid one, valid values obey the laws of a commutative ring,
-- and a unit has a reciprocal. The named functions and the comparisons have no law.
pub record IsAlgebra {V : Type 0} (o : Operations V) (valid : V → Type 0) (unit : V → Type 0) : Type 0 where
  pub valid_zero : valid o.zero
  pub valid_one : valid o.one
  pub valid_sum : (x y : V) → valid x → valid y → valid (o.sum x y)
  pub valid_negative : (x : V) → valid x → valid (o.negative x)
  pub valid_product : (x y : V) → valid x → valid y → valid (o.product x y)
  pub valid_recip : (x : V) → valid x → valid (o.recip x)
  pub valid_fun1 : (f : Fun1) (x : V) → valid x → valid (o.fun1 f x)
  pub valid_fun2 : (f : Fun2) (x y : V) → valid x → valid y → valid (o.fun2 f x y)
  pub sum_comm : (x y : V) → valid x → valid y → o.sum x y ≡ o.sum y x
  pub sum_assoc : (x y z : V) → valid x → valid y → valid z → o.sum (o.sum x y) z ≡ o.sum x (o.sum y z)
  pub sum_zero : (x : V) → valid x → o.sum x o.zero ≡ x
  pub sum_negative : (x : V) → valid x → o.sum x (o.negative x) ≡ o.zero
  pub product_comm : (x y : V) → valid x → valid y → o.product x y ≡ o.product y x
  pub product_assoc : (x y z : V) → valid x → valid y → valid z
      → o.product (o.product x y) z ≡ o.product x (o.product y z)
  pub product_one : (x : V) → valid x → o.product x o.one ≡ x
  pub product_sum : (x y z : V) → valid x → valid y → valid z
      → o.product x (o.sum y z) ≡ o.sum (o.product x y) (o.product x z)
  pub product_recip : (x : V) → valid x → unit x → o.product x (o.recip x) ≡ o.one

-- n copies of 1, added up
abbrev pub copies : {V : Type 0} → Operations V → ℕ → V
copies o zero = o.zero
copies o (suc n) = o.sum (copies o n) o.one
