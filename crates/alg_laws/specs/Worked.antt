-- Rows that are worked out by hand: the derivative of each named function at one place modulo 1000003, and what products,
-- reciprocals, literals and comparisons give there.
use Rattle.std.specs.Prelude.{◌≡◌, ℕ, ℤ, pos, negsuc, true, false}
use Rattle.alg_laws.specs.declared.function.Fun1.{Fun1}
use Rattle.alg_laws.specs.declared.function.Fun1.TheVariants.{Exp, Ln, Log, Sqrt, Sin, Cos, Tan, Asin, Acos, Atan, Sinh, Cosh, Tanh, Asinh, Acosh, Atanh, Floor, Ceil}
use Rattle.alg_laws.specs.declared.function.Fun2.{Fun2}
use Rattle.alg_laws.specs.declared.function.Fun2.TheVariants.{Pow, Atan2, Hypot}
use Rattle.alg_laws.specs.declared.dual.Dual.{Dual}
use Rattle.alg_laws.specs.Dual.{dual}
use Rattle.alg_laws.specs.LiteralValue.{literal_value, whole_value}
use Rattle.alg_laws.specs.Residue.{residue_ops}
use Rattle.alg_laws.specs.Whole.{whole_ops}

-- a residue with its infinitesimal part
abbrev pub pair : ℕ → ℕ → Dual ℕ
pair a b = record { main = a; part = b }

-- how a function moves with its argument
abbrev pub moves : Fun1 → ℕ → ℕ
moves f x = ((dual residue_ops).fun1 f (pair x 1)).part

-- how one of two arguments moves with the first, and with the second
abbrev pub moves_first : Fun2 → ℕ → ℕ → ℕ
moves_first f x y = ((dual residue_ops).fun2 f (pair x 1) (pair y 0)).part

abbrev pub moves_second : Fun2 → ℕ → ℕ → ℕ
moves_second f x y = ((dual residue_ops).fun2 f (pair x 0) (pair y 1)).part

-- the derivatives at 3, and at 3 and 5
pub record WorkedDerivatives : Type 0 where
  pub exp : moves Exp 3 ≡ 10
  pub ln : moves Ln 3 ≡ 666669
  pub log : moves Log 3 ≡ 800656
  pub sqrt : moves Sqrt 3 ≡ 115385
  pub sin : moves Sin 3 ≡ 15
  pub cos : moves Cos 3 ≡ 999989
  pub tan : moves Tan 3 ≡ 257
  pub asin : moves Asin 3 ≡ 602943
  pub acos : moves Acos 3 ≡ 397060
  pub atan : moves Atan 3 ≡ 300001
  pub sinh : moves Sinh 3 ≡ 21
  pub cosh : moves Cosh 3 ≡ 20
  pub tanh : moves Tanh 3 ≡ 999520
  pub asinh : moves Asinh 3 ≡ 278847
  pub acosh : moves Acosh 3 ≡ 602943
  pub atanh : moves Atanh 3 ≡ 375001
  pub floor : moves Floor 3 ≡ 0
  pub ceil : moves Ceil 3 ≡ 0
  pub pow_base : moves_first Pow 3 5 ≡ 200
  pub pow_exponent : moves_second Pow 3 5 ≡ 473
  pub atan2_ordinate : moves_first Atan2 3 5 ≡ 29412
  pub atan2_abscissa : moves_second Atan2 3 5 ≡ 382354
  pub hypot_first : moves_first Hypot 3 5 ≡ 533335
  pub hypot_second : moves_second Hypot 3 5 ≡ 222223
  pub pow_of_both : (dual residue_ops).fun2 Pow (pair 3 4) (pair 5 6) ≡ pair 43 3638

-- (5 - 3) / 1 in the whole numbers
abbrev pub difference_over_one : ℤ
difference_over_one = whole_ops.product (whole_ops.sum (pos 5) (whole_ops.negative (pos 3))) (whole_ops.recip (pos 1))

-- products, reciprocals, literals and answers
pub record WorkedValues : Type 0 where
  pub product_of_duals : (dual residue_ops).product (pair 3 4) (pair 5 6) ≡ pair 15 38
  pub recip_of_dual : (dual residue_ops).recip (pair 3 4) ≡ pair 666669 111111
  pub recip_of_zero : residue_ops.recip 0 ≡ 0
  pub recip_of_negative : residue_ops.recip 1000000 ≡ 333334
  pub recip_of_ten : residue_ops.recip 10 ≡ 300001
  pub milli : literal_value residue_ops 15 (negsuc 3) ≡ 999503
  pub kilo : literal_value residue_ops 25 (pos 2) ≡ 2500
  pub milli_of_dual : literal_value (dual residue_ops) 15 (negsuc 3) ≡ pair 999503 0
  pub negative_whole : whole_value residue_ops (negsuc 2) ≡ 1000000
  pub near_below_half : residue_ops.near 500001 ≡ pos 500001
  pub near_above_half : residue_ops.near 500002 ≡ negsuc 500000
  pub less_below_zero : residue_ops.less 1000002 0 ≡ true
  pub at_most_itself : residue_ops.at_most 7 7 ≡ true
  pub same_is_not_all : residue_ops.same 7 8 ≡ false
  pub five_less_three : difference_over_one ≡ pos 2
  pub its_negative : whole_ops.negative difference_over_one ≡ negsuc 1
  pub half_is_none : whole_ops.recip (pos 2) ≡ pos 0
  pub recip_of_minus_one : whole_ops.recip (negsuc 0) ≡ negsuc 0
