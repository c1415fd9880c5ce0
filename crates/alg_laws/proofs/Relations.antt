-- Three relations that the operations keep: the main of a dual number, validity, and not moving.
use Rattle.std.proofs.Common.{refl, ap, ◌∙◌}
use Rattle.alg_laws.specs.Dual.{dual}
use Rattle.alg_laws.specs.Operations.{Operations, IsAlgebra}
use Rattle.alg_laws.specs.Related.{Relates, HasMain, IsValid, IsLifted}
use Rattle.alg_laws.proofs.Literals.{lift_sum, lift_negative, lift_product, lift_recip, lift_fun1, lift_fun2}

pub mains_relate : {V : Type 0} (o : Operations V) → Relates (dual o) o HasMain
mains_relate o = record {
  zero = refl;
  one = refl;
  sum = λ x y u v h k i. o.sum (h i) (k i);
  negative = λ x u h. ap o.negative h;
  product = λ x y u v h k i. o.product (h i) (k i);
  recip = λ x u h. ap o.recip h;
  fun1 = λ f x u h. ap (o.fun1 f) h;
  fun2 = λ f x y u v h k i. o.fun2 f (h i) (k i);
  less = λ x y u v h k i. o.less (h i) (k i);
  at_most = λ x y u v h k i. o.at_most (h i) (k i);
  same = λ x y u v h k i. o.same (h i) (k i);
  near = λ x u h. ap o.near h;
}

module _ {V : Type 0} (o : Operations V) (valid unit : V → Type 0) (l : IsAlgebra o valid unit) where
  pub validity_relates : Relates o o (IsValid valid)
  validity_relates = record {
    zero = (refl, l.valid_zero);
    one = (refl, l.valid_one);
    sum = λ x y u v h k. (λ i. o.sum (h.0 i) (k.0 i), l.valid_sum x y h.1 k.1);
    negative = λ x u h. (ap o.negative h.0, l.valid_negative x h.1);
    product = λ x y u v h k. (λ i. o.product (h.0 i) (k.0 i), l.valid_product x y h.1 k.1);
    recip = λ x u h. (ap o.recip h.0, l.valid_recip x h.1);
    fun1 = λ f x u h. (ap (o.fun1 f) h.0, l.valid_fun1 f x h.1);
    fun2 = λ f x y u v h k. (λ i. o.fun2 f (h.0 i) (k.0 i), l.valid_fun2 f x y h.1 k.1);
    less = λ x y u v h k i. o.less (h.0 i) (k.0 i);
    at_most = λ x y u v h k i. o.at_most (h.0 i) (k.0 i);
    same = λ x y u v h k i. o.same (h.0 i) (k.0 i);
    near = λ x u h. ap o.near h.0;
  }

  pub lifts_relate : Relates (dual o) o (IsLifted o valid)
  lifts_relate = record {
    zero = (refl, l.valid_zero);
    one = (refl, l.valid_one);
    sum = λ x y u v h k. ((λ i. (dual o).sum (h.0 i) (k.0 i)) ∙ lift_sum o valid unit l u v, l.valid_sum u v h.1 k.1);
    negative = λ x u h. (ap (dual o).negative h.0 ∙ lift_negative o valid unit l u, l.valid_negative u h.1);
    product = λ x y u v h k. (
      (λ i. (dual o).product (h.0 i) (k.0 i)) ∙ lift_product o valid unit l u v h.1 k.1,
      l.valid_product u v h.1 k.1,
    );
    recip = λ x u h. (ap (dual o).recip h.0 ∙ lift_recip o valid unit l u h.1, l.valid_recip u h.1);
    fun1 = λ f x u h. (ap ((dual o).fun1 f) h.0 ∙ lift_fun1 o valid unit l f u h.1, l.valid_fun1 f u h.1);
    fun2 = λ f x y u v h k. (
      (λ i. (dual o).fun2 f (h.0 i) (k.0 i)) ∙ lift_fun2 o valid unit l f u v h.1 k.1,
      l.valid_fun2 f u v h.1 k.1,
    );
    less = λ x y u v h k i. (dual o).less (h.0 i) (k.0 i);
    at_most = λ x y u v h k i. (dual o).at_most (h.0 i) (k.0 i);
    same = λ x y u v h k i. (dual o).same (h.0 i) (k.0 i);
    near = λ x u h. ap (dual o).near h.0;
  }
