-- The numbers modulo the prime 1000003, with made-up functions: values to work examples out by hand in.
use Rattle.std.specs.Prelude.{ℕ, zero, suc, ◌+◌, ◌-◌, ◌*◌, ◌/◌, ◌%◌, ◌<◌, ◌&&◌, ◌==◌, ℤ, pos, neg_ℤ, int_lt, int_le, nat_lt, if◌then◌else◌}
use Rattle.alg_laws.specs.declared.function.Fun1.{Fun1}
use Rattle.alg_laws.specs.declared.function.Fun1.TheVariants.{Exp, Ln, Log, Sqrt, Sin, Cos, Tan, Asin, Acos, Atan, Sinh, Cosh, Tanh, Asinh, Acosh, Atanh, Floor, Ceil}
use Rattle.alg_laws.specs.declared.function.Fun2.{Fun2}
use Rattle.alg_laws.specs.declared.function.Fun2.TheVariants.{Pow, Atan2, Hypot}
use Rattle.alg_laws.specs.Operations.{Operations}

-- A prime.
abbrev pub modulus : ℕ
modulus = 1000003

-- A residue is a number below the modulus.
abbrev pub residue_valid : ℕ → Type 0
residue_valid x = x < modulus

-- Euclid's algorithm on two remainders r and s, of which each is a multiple of x modulo m: r that of t, s that of u. Where it
-- ends at 1 the multiplier is the inverse of x; where it ends at another number there is none.
abbrev pub inverse_by : (m steps r t s u : ℕ) → ℕ
inverse_by m zero r t s u = 0
inverse_by m (suc k) r t zero u = if r == 1 then t else 0
inverse_by m (suc k) r t (suc s) u =
    inverse_by m k (suc s) u (r % suc s) ((t + (m - (r / suc s) * u % m)) % m)

-- The inverse where there is one, else 0. A step halves the product of the remainders, which is below 2 ^ 40 at first: 41 are
-- enough.
abbrev pub residue_recip : ℕ → ℕ
residue_recip x = inverse_by modulus 41 modulus 0 (x % modulus) 1

-- The value nearest to 0 that a residue stands for.
abbrev pub centred : ℕ → ℤ
centred x = if nat_lt (2 * x) modulus then pos x else neg_ℤ (pos (modulus - x))

-- The named functions by their numbers, from 1 on.
abbrev pub fun1_number : Fun1 → ℕ
fun1_number Exp = 1
fun1_number Ln = 2
fun1_number Log = 3
fun1_number Sqrt = 4
fun1_number Sin = 5
fun1_number Cos = 6
fun1_number Tan = 7
fun1_number Asin = 8
fun1_number Acos = 9
fun1_number Atan = 10
fun1_number Sinh = 11
fun1_number Cosh = 12
fun1_number Tanh = 13
fun1_number Asinh = 14
fun1_number Acosh = 15
fun1_number Atanh = 16
fun1_number Floor = 17
fun1_number Ceil = 18

-- And those of two arguments.
abbrev pub fun2_number : Fun2 → ℕ
fun2_number Pow = 19
fun2_number Atan2 = 20
fun2_number Hypot = 21

-- Function k is x·x + k, and of two arguments x·x + x·y + k with x the first: no two functions are alike, and neither are the
-- two arguments. Comparisons and `near` go by the value nearest to 0.
abbrev pub residue_ops : Operations ℕ
residue_ops = record {
  zero = 0;
  one = 1;
  sum = λ x y. (x + y) % modulus;
  negative = λ x. (modulus - x) % modulus;
  product = λ x y. x * y % modulus;
  recip = residue_recip;
  fun1 = λ f x. (x * x + fun1_number f) % modulus;
  fun2 = λ f x y. (x * x + x * y + fun2_number f) % modulus;
  less = λ x y. int_lt (centred x) (centred y);
  at_most = λ x y. int_le (centred x) (centred y);
  same = λ x y. int_le (centred x) (centred y) && int_le (centred y) (centred x);
  near = centred;
}
