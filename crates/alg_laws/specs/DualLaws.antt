-- The dual numbers over an algebra are an algebra.
use Rattle.std.specs.Prelude.{◌≡◌}
use Rattle.std.proofs.Common.{ap, ◌∙◌}
use Rattle.alg_laws.specs.Operations.{Operations, IsAlgebra}
use Rattle.alg_laws.specs.Rings.{zero_sum, sum_product, product_zero, negative_product, negative_sum_zero, swap_middle, valid_copies}
use Rattle.alg_laws.specs.declared.function.Fun1.{Fun1}
use Rattle.alg_laws.specs.declared.function.Fun1.TheVariants.{Exp, Ln, Log, Sqrt, Sin, Cos, Tan, Asin, Acos, Atan, Sinh, Cosh, Tanh, Asinh, Acosh, Atanh, Floor, Ceil}
use Rattle.alg_laws.specs.declared.function.Fun2.{Fun2}
use Rattle.alg_laws.specs.declared.function.Fun2.TheVariants.{Pow, Atan2, Hypot}
use Rattle.alg_laws.specs.declared.dual.Dual.{Dual}
use Rattle.alg_laws.specs.Dual.{dual, dual_valid, dual_unit, slope, slope_first, slope_second}

-- dual numbers with equal mains and equal parts are equal
pub same_dual : {V : Type 0} (x y : Dual V) → x.main ≡ y.main → x.part ≡ y.part → x ≡ y
same_dual x y p q = λ i. record { main = p i; part = q i }

-- the parts of the two sides of each law of products, and the validity of derivatives
module _ {V : Type 0} (o : Operations V) (valid unit : V → Type 0) (l : IsAlgebra o valid unit) where
  assoc_part : (a b c d e f : V) → valid a → valid b → valid c → valid d → valid e → valid f
      → o.sum (o.product (o.product a c) f) (o.product (o.sum (o.product a d) (o.product b c)) e)
      ≡ o.sum (o.product a (o.sum (o.product c f) (o.product d e))) (o.product b (o.product c e))
  assoc_part a b c d e f va vb vc vd ve vf =
      simp (l.product_sum, sum_product o valid unit l, l.product_assoc, l.sum_assoc, l.valid_product)

  comm_part : (a b c d : V) → valid a → valid b → valid c → valid d
      → o.sum (o.product a d) (o.product b c) ≡ o.sum (o.product c b) (o.product d a)
  comm_part a b c d va vb vc vd = simp (l.product_comm, l.sum_comm, l.valid_product)

  one_part : (a b : V) → valid a → valid b → o.sum (o.product a o.zero) (o.product b o.one) ≡ b
  one_part a b va vb = simp (product_zero o valid unit l, l.product_one, zero_sum o valid unit l)

  distributes_part : (a b c d e f : V) → valid a → valid b → valid c → valid d → valid e → valid f
      → o.sum (o.product a (o.sum d f)) (o.product b (o.sum c e))
      ≡ o.sum (o.sum (o.product a d) (o.product b c)) (o.sum (o.product a f) (o.product b e))
  distributes_part a b c d e f va vb vc vd ve vf =
      (λ i. o.sum (l.product_sum a d f va vd vf i) (l.product_sum b c e vb vc ve i))
      ∙ swap_middle o valid unit l (o.product a d) (o.product a f) (o.product b c) (o.product b e)
      (l.valid_product a d va vd) (l.valid_product a f va vf) (l.valid_product b c vb vc) (l.valid_product b e vb ve)

  -- a·(-b·r·r) + b·r is 0 where a·r is 1
  recip_part : (a b : V) → valid a → valid b → unit a
      → o.sum (o.product a (o.product (o.product (o.negative b) (o.recip a)) (o.recip a))) (o.product b (o.recip a)) ≡ o.zero
  recip_part a b va vb u =
      let r = o.recip a in
      let vr = l.valid_recip a va in
      let n = l.valid_negative b vb in
      let m = l.valid_product (o.negative b) r n vr in
      ap (λ t. o.sum t (o.product b r))
      (l.product_comm a (o.product (o.product (o.negative b) r) r) va
      (l.valid_product (o.product (o.negative b) r) r m vr)
      ∙ l.product_assoc (o.product (o.negative b) r) r a m vr va
      ∙ ap (λ t. o.product (o.product (o.negative b) r) t) (l.product_comm r a vr va ∙ l.product_recip a va u)
      ∙ l.product_one (o.product (o.negative b) r) m
      ∙ negative_product o valid unit l b r vb vr)
      ∙ negative_sum_zero o valid unit l (o.product b r) (l.valid_product b r vb vr)

  pub valid_slope : (f : Fun1) (x : V) → valid x → valid (slope o f x)
  valid_slope Exp x v = search (l.valid_fun1)
  valid_slope Ln x v = search (l.valid_recip)
  valid_slope Log x v = search (l.valid_recip, l.valid_product, l.valid_fun1, valid_copies o valid unit l)
  valid_slope Sqrt x v = search (l.valid_recip, l.valid_product, l.valid_fun1, valid_copies o valid unit l)
  valid_slope Sin x v = search (l.valid_fun1)
  valid_slope Cos x v = search (l.valid_negative, l.valid_fun1)
  valid_slope Tan x v = search (l.valid_sum, l.valid_product, l.valid_fun1, l.valid_one)
  valid_slope Asin x v =
      search (l.valid_recip, l.valid_fun1, l.valid_sum, l.valid_negative, l.valid_product, l.valid_one)
  valid_slope Acos x v =
      l.valid_negative _ (search (l.valid_recip, l.valid_fun1, l.valid_sum, l.valid_negative, l.valid_product, l.valid_one))
  valid_slope Atan x v = search (l.valid_recip, l.valid_sum, l.valid_product, l.valid_one)
  valid_slope Sinh x v = search (l.valid_fun1)
  valid_slope Cosh x v = search (l.valid_fun1)
  valid_slope Tanh x v = search (l.valid_sum, l.valid_negative, l.valid_product, l.valid_fun1, l.valid_one)
  valid_slope Asinh x v = search (l.valid_recip, l.valid_fun1, l.valid_sum, l.valid_product, l.valid_one)
  valid_slope Acosh x v =
      search (l.valid_recip, l.valid_fun1, l.valid_sum, l.valid_product, l.valid_negative, l.valid_one)
  valid_slope Atanh x v = search (l.valid_recip, l.valid_sum, l.valid_negative, l.valid_product, l.valid_one)
  valid_slope Floor x v = l.valid_zero
  valid_slope Ceil x v = l.valid_zero

  pub valid_slope_first : (f : Fun2) (x y : V) → valid x → valid y → valid (slope_first o f x y)
  valid_slope_first Pow x y v w = search (l.valid_product, l.valid_fun2, l.valid_sum, l.valid_negative, l.valid_one)
  valid_slope_first Atan2 x y v w = search (l.valid_product, l.valid_recip, l.valid_sum)
  valid_slope_first Hypot x y v w = search (l.valid_product, l.valid_recip, l.valid_fun2)

  pub valid_slope_second : (f : Fun2) (x y : V) → valid x → valid y → valid (slope_second o f x y)
  valid_slope_second Pow x y v w = search (l.valid_product, l.valid_fun2, l.valid_fun1)
  valid_slope_second Atan2 x y v w = search (l.valid_product, l.valid_recip, l.valid_sum, l.valid_negative)
  valid_slope_second Hypot x y v w = search (l.valid_product, l.valid_recip, l.valid_fun2)

  pub dual_laws : IsAlgebra (dual o) (dual_valid valid) (dual_unit unit)
  dual_laws = record {
    valid_zero = (l.valid_zero, l.valid_zero);
    valid_one = (l.valid_one, l.valid_zero);
    valid_sum = λ x y v w. (l.valid_sum x.main y.main v.0 w.0, l.valid_sum x.part y.part v.1 w.1);
    valid_negative = λ x v. (l.valid_negative x.main v.0, l.valid_negative x.part v.1);
    valid_product = λ x y v w. (
      l.valid_product x.main y.main v.0 w.0,
      l.valid_sum _ _ (l.valid_product x.main y.part v.0 w.1) (l.valid_product x.part y.main v.1 w.0),
    );
    valid_recip = λ x v. (
      l.valid_recip x.main v.0,
      l.valid_product _ _ (l.valid_product _ _ (l.valid_negative x.part v.1) (l.valid_recip x.main v.0))
          (l.valid_recip x.main v.0),
    );
    valid_fun1 = λ f x v. (l.valid_fun1 f x.main v.0, l.valid_product _ _ (valid_slope f x.main v.0) v.1);
    valid_fun2 = λ f x y v w. (
      l.valid_fun2 f x.main y.main v.0 w.0,
      l.valid_sum _ _ (l.valid_product _ _ (valid_slope_first f x.main y.main v.0 w.0) v.1)
          (l.valid_product _ _ (valid_slope_second f x.main y.main v.0 w.0) w.1),
    );
    sum_comm = λ x y v w. same_dual _ _ (l.sum_comm x.main y.main v.0 w.0) (l.sum_comm x.part y.part v.1 w.1);
    sum_assoc = λ x y z u v w.
        same_dual _ _ (l.sum_assoc x.main y.main z.main u.0 v.0 w.0) (l.sum_assoc x.part y.part z.part u.1 v.1 w.1);
    sum_zero = λ x v. same_dual _ _ (l.sum_zero x.main v.0) (l.sum_zero x.part v.1);
    sum_negative = λ x v. same_dual _ _ (l.sum_negative x.main v.0) (l.sum_negative x.part v.1);
    product_comm = λ x y v w.
        same_dual _ _ (l.product_comm x.main y.main v.0 w.0)
        (comm_part x.main x.part y.main y.part v.0 v.1 w.0 w.1);
    product_assoc = λ x y z u v w.
        same_dual _ _ (l.product_assoc x.main y.main z.main u.0 v.0 w.0)
        (assoc_part x.main x.part y.main y.part z.main z.part u.0 u.1 v.0 v.1 w.0 w.1);
    product_one = λ x v. same_dual _ _ (l.product_one x.main v.0) (one_part x.main x.part v.0 v.1);
    product_sum = λ x y z u v w.
        same_dual _ _ (l.product_sum x.main y.main z.main u.0 v.0 w.0)
        (distributes_part x.main x.part y.main y.part z.main z.part u.0 u.1 v.0 v.1 w.0 w.1);
    product_recip = λ x v u. same_dual _ _ (l.product_recip x.main v.0 u) (recip_part x.main x.part v.0 v.1 u);
  }
