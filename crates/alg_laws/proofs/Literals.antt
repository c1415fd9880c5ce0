-- The values of literals are valid, and don't move.
use Rattle.std.specs.Prelude.{◌≡◌, ℕ, zero, suc, ℤ, pos, negsuc}
use Rattle.std.proofs.Common.{refl, ap, ◌∙◌}
use Rattle.alg_laws.specs.Operations.{Operations, IsAlgebra, copies}
use Rattle.alg_laws.specs.Dual.{dual, lift, slope, slope_first, slope_second, LiftsAreKept}
use Rattle.alg_laws.specs.DualLaws.{same_dual, valid_slope, valid_slope_first, valid_slope_second}
use Rattle.alg_laws.specs.declared.function.Fun1.{Fun1}
use Rattle.alg_laws.specs.declared.function.Fun2.{Fun2}
use Rattle.alg_laws.specs.Rings.{product_zero, zero_product, negative_zero, valid_copies}
use Rattle.alg_laws.specs.LiteralValue.{times_power, literal_value, whole_value, LiteralsAreValid, LiteralsAreLifted}

module _ {V : Type 0} (o : Operations V) (valid unit : V → Type 0) (l : IsAlgebra o valid unit) where
  -- operations on values that don't move give values that don't
  pub lift_sum : (x y : V) → (dual o).sum (lift o x) (lift o y) ≡ lift o (o.sum x y)
  lift_sum x y = same_dual _ _ refl (l.sum_zero o.zero l.valid_zero)

  pub lift_negative : (x : V) → (dual o).negative (lift o x) ≡ lift o (o.negative x)
  lift_negative x = same_dual _ _ refl (negative_zero o valid unit l)

  pub lift_product : (x y : V) → valid x → valid y → (dual o).product (lift o x) (lift o y) ≡ lift o (o.product x y)
  lift_product x y vx vy =
      same_dual _ _ refl
      ((λ i. o.sum (product_zero o valid unit l x vx i) (zero_product o valid unit l y vy i)) ∙ l.sum_zero o.zero l.valid_zero)

  pub lift_recip : (x : V) → valid x → (dual o).recip (lift o x) ≡ lift o (o.recip x)
  lift_recip x vx =
      let r = l.valid_recip x vx in
      same_dual _ _ refl
      (ap (λ t. o.product (o.product t (o.recip x)) (o.recip x)) (negative_zero o valid unit l)
      ∙ ap (λ t. o.product t (o.recip x)) (zero_product o valid unit l (o.recip x) r)
      ∙ zero_product o valid unit l (o.recip x) r)

  pub lift_fun1 : (f : Fun1) (x : V) → valid x → (dual o).fun1 f (lift o x) ≡ lift o (o.fun1 f x)
  lift_fun1 f x vx = same_dual _ _ refl (product_zero o valid unit l (slope o f x) (valid_slope o valid unit l f x vx))

  pub lift_fun2 : (f : Fun2) (x y : V) → valid x → valid y → (dual o).fun2 f (lift o x) (lift o y) ≡ lift o (o.fun2 f x y)
  lift_fun2 f x y vx vy =
      same_dual _ _ refl
      ((λ i. o.sum (product_zero o valid unit l (slope_first o f x y) (valid_slope_first o valid unit l f x y vx vy) i)
      (product_zero o valid unit l (slope_second o f x y) (valid_slope_second o valid unit l f x y vx vy) i))
      ∙ l.sum_zero o.zero l.valid_zero)

  pub lifts_kept : LiftsAreKept V o valid
  lifts_kept = record {
    zero = refl;
    one = refl;
    sum = lift_sum;
    negative = lift_negative;
    product = lift_product;
    recip = lift_recip;
    fun1 = lift_fun1;
    fun2 = lift_fun2;
  }

  pub lift_copies : (n : ℕ) → copies (dual o) n ≡ lift o (copies o n)
  lift_copies zero = refl
  lift_copies (suc n) = ap (λ t. (dual o).sum t (dual o).one) (lift_copies n) ∙ lift_sum (copies o n) o.one

  pub valid_power : (x y : V) (n : ℕ) → valid x → valid y → valid (times_power o x n y)
  valid_power x y zero vx vy = vy
  valid_power x y (suc n) vx vy = l.valid_product (times_power o x n y) x (valid_power x y n vx vy) vx

  lift_power : (x y : V) (n : ℕ) → valid x → valid y
      → times_power (dual o) (lift o x) n (lift o y) ≡ lift o (times_power o x n y)
  lift_power x y zero vx vy = refl
  lift_power x y (suc n) vx vy =
      ap (λ t. (dual o).product t (lift o x)) (lift_power x y n vx vy)
      ∙ lift_product (times_power o x n y) x (valid_power x y n vx vy) vx

  pub valid_literal : (m : ℕ) (p : ℤ) → valid (literal_value o m p)
  valid_literal m (pos p) =
      valid_power (copies o 10) (copies o m) p (valid_copies o valid unit l 10) (valid_copies o valid unit l m)
  valid_literal m (negsuc p) =
      valid_power (o.recip (copies o 10)) (copies o m) (suc p)
      (l.valid_recip (copies o 10) (valid_copies o valid unit l 10)) (valid_copies o valid unit l m)

  pub lift_literal : (m : ℕ) (p : ℤ) → literal_value (dual o) m p ≡ lift o (literal_value o m p)
  lift_literal m (pos p) =
      (λ i. times_power (dual o) (lift_copies 10 i) p (lift_copies m i))
      ∙ lift_power (copies o 10) (copies o m) p (valid_copies o valid unit l 10) (valid_copies o valid unit l m)
  lift_literal m (negsuc p) =
      let ten = valid_copies o valid unit l 10 in
      (λ i. times_power (dual o) ((dual o).recip (lift_copies 10 i)) (suc p) (lift_copies m i))
      ∙ ap (λ t. times_power (dual o) t (suc p) (lift o (copies o m))) (lift_recip (copies o 10) ten)
      ∙ lift_power (o.recip (copies o 10)) (copies o m) (suc p) (l.valid_recip (copies o 10) ten) (valid_copies o valid unit l m)

  pub valid_whole : (z : ℤ) → valid (whole_value o z)
  valid_whole (pos n) = valid_copies o valid unit l n
  valid_whole (negsuc n) = l.valid_negative (copies o (suc n)) (valid_copies o valid unit l (suc n))

  pub lift_whole : (z : ℤ) → whole_value (dual o) z ≡ lift o (whole_value o z)
  lift_whole (pos n) = lift_copies n
  lift_whole (negsuc n) = ap (dual o).negative (lift_copies (suc n)) ∙ lift_negative (copies o (suc n))

  pub literals_valid : LiteralsAreValid V o valid
  literals_valid = record { copies_of_one = valid_copies o valid unit l; literal = valid_literal; whole = valid_whole }

  pub literals_lifted : LiteralsAreLifted V o valid
  literals_lifted = record { copies_of_one = lift_copies; literal = lift_literal; whole = lift_whole }
