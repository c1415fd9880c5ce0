-- The whole numbers as an algebra.
use Rattle.std.specs.Prelude.{◌≡◌, ◌&&◌, zero, suc, ℤ, pos, negsuc, ◌+ℤ◌, ◌*ℤ◌, neg_ℤ, int_lt, int_le, refl}
use Rattle.std.proofs.Common.{arith}
use Rattle.std.proofs.lemmas.Int.{ints}
use Rattle.std.proofs.Math.IntN.{*ℤ_comm, +ℤ_comm, +ℤ_assoc, +ℤ_idr, +ℤ_invr}
use Rattle.alg_laws.specs.WholeProducts.{*ℤ_assoc, *ℤ-+ℤ}
use Rattle.alg_laws.specs.Operations.{Operations, IsAlgebra}

-- 1 and -1 are their own reciprocals; the others get 0.
abbrev pub whole_recip : ℤ → ℤ
whole_recip (pos (suc zero)) = pos 1
whole_recip (negsuc zero) = negsuc 0
whole_recip (pos n) = pos 0
whole_recip (negsuc n) = pos 0

-- Sums, products and comparisons are the usual ones, each named function is 0, and a whole number is the one nearest to itself.
abbrev pub whole_ops : Operations ℤ
whole_ops = record {
  zero = pos 0;
  one = pos 1;
  sum = ◌+ℤ◌;
  negative = neg_ℤ;
  product = ◌*ℤ◌;
  recip = whole_recip;
  fun1 = λ _ _. pos 0;
  fun2 = λ _ _ _. pos 0;
  less = int_lt;
  at_most = int_le;
  same = λ x y. int_le x y && int_le y x;
  near = λ x. x;
}

-- Every whole number is valid.
abbrev pub whole_valid : ℤ → Type 0
whole_valid _ = Unit {0}

-- The units are 1 and -1.
abbrev pub whole_unit : ℤ → Type 0
whole_unit (pos (suc zero)) = Unit {0}
whole_unit (negsuc zero) = Unit {0}
whole_unit (pos n) = ⊥
whole_unit (negsuc n) = ⊥

whole_product_recip : (x : ℤ) → whole_unit x → x *ℤ whole_recip x ≡ pos 1
whole_product_recip (pos zero) u = absurd u
whole_product_recip (pos (suc zero)) u = refl
whole_product_recip (pos (suc (suc n))) u = absurd u
whole_product_recip (negsuc zero) u = refl
whole_product_recip (negsuc (suc n)) u = absurd u

pub whole_laws : IsAlgebra whole_ops whole_valid whole_unit
whole_laws = record {
  valid_zero = tt;
  valid_one = tt;
  valid_sum = λ _ _ _ _. tt;
  valid_negative = λ _ _. tt;
  valid_product = λ _ _ _ _. tt;
  valid_recip = λ _ _. tt;
  valid_fun1 = λ _ _ _. tt;
  valid_fun2 = λ _ _ _ _ _. tt;
  sum_comm = λ x y _ _. +ℤ_comm x y;
  sum_assoc = λ x y z _ _ _. +ℤ_assoc x y z;
  sum_zero = λ x _. +ℤ_idr x;
  sum_negative = λ x _. +ℤ_invr x;
  product_comm = λ x y _ _. *ℤ_comm x y;
  product_assoc = λ x y z _ _ _. *ℤ_assoc x y z;
  product_one = λ x _. omega (arith, ints);
  product_sum = λ x y z _ _ _. *ℤ-+ℤ x y z;
  product_recip = λ x _ u. whole_product_recip x u;
}
