-- What follows from the laws of an algebra. Each premise of validity stands with its value, so that the laws hold of valid
-- values alone.
use Rattle.std.specs.Prelude.{◌≡◌, ℕ, zero, suc}
use Rattle.std.proofs.Common.{sym, ap, ◌∙◌}
use Rattle.alg_laws.specs.Operations.{Operations, IsAlgebra, copies}

-- How negatives and zero go with products and sums.
pub record NegativesAndProducts (V : Type 0) (o : Operations V) (valid : V → Type 0) : Type 0 where
  pub zero : (x : V) → valid x → o.product x o.zero ≡ o.zero
  pub negative_first : (x y : V) → valid x → valid y → o.product (o.negative x) y ≡ o.negative (o.product x y)
  pub negative_second : (x y : V) → valid x → valid y → o.product x (o.negative y) ≡ o.negative (o.product x y)
  pub negative_twice : (x : V) → valid x → o.negative (o.negative x) ≡ x
  pub negative_of_zero : o.negative o.zero ≡ o.zero
  pub negative_of_sum : (x y : V) → valid x → valid y → o.negative (o.sum x y) ≡ o.sum (o.negative x) (o.negative y)

module _ {V : Type 0} (o : Operations V) (valid unit : V → Type 0) (l : IsAlgebra o valid unit) where
  pub zero_sum : (x : V) → valid x → o.sum o.zero x ≡ x
  zero_sum x v = l.sum_comm o.zero x l.valid_zero v ∙ l.sum_zero x v

  pub one_product : (x : V) → valid x → o.product o.one x ≡ x
  one_product x v = l.product_comm o.one x l.valid_one v ∙ l.product_one x v

  pub negative_sum_zero : (x : V) → valid x → o.sum (o.negative x) x ≡ o.zero
  negative_sum_zero x v = l.sum_comm (o.negative x) x (l.valid_negative x v) v ∙ l.sum_negative x v

  pub sum_product : (x y z : V) → valid x → valid y → valid z
      → o.product (o.sum x y) z ≡ o.sum (o.product x z) (o.product y z)
  sum_product x y z vx vy vz =
      l.product_comm (o.sum x y) z (l.valid_sum x y vx vy) vz
      ∙ l.product_sum z x y vz vx vy
      ∙ (λ i. o.sum (l.product_comm z x vz vx i) (l.product_comm z y vz vy i))

  -- y = -x + (x + y)
  regained : (x y : V) → valid x → valid y → y ≡ o.sum (o.negative x) (o.sum x y)
  regained x y vx vy =
      sym (zero_sum y vy)
      ∙ ap (λ t. o.sum t y) (sym (negative_sum_zero x vx))
      ∙ l.sum_assoc (o.negative x) x y (l.valid_negative x vx) vx vy

  -- what leaves a value as it is, is zero
  pub only_zero : (x y : V) → valid x → valid y → o.sum x y ≡ x → y ≡ o.zero
  only_zero x y vx vy e = regained x y vx vy ∙ ap (λ t. o.sum (o.negative x) t) e ∙ negative_sum_zero x vx

  -- what adds up to zero with a value, is its negative
  pub only_negative : (x y : V) → valid x → valid y → o.sum x y ≡ o.zero → y ≡ o.negative x
  only_negative x y vx vy e =
      regained x y vx vy ∙ ap (λ t. o.sum (o.negative x) t) e ∙ l.sum_zero (o.negative x) (l.valid_negative x vx)

  -- what is added on the left can be taken away
  pub sum_cancel : (x y z : V) → valid x → valid y → valid z → o.sum x y ≡ o.sum x z → y ≡ z
  sum_cancel x y z vx vy vz e =
      regained x y vx vy ∙ ap (λ t. o.sum (o.negative x) t) e ∙ sym (regained x z vx vz)

  pub product_zero : (x : V) → valid x → o.product x o.zero ≡ o.zero
  product_zero x v =
      let z = l.valid_product x o.zero v l.valid_zero in
      only_zero (o.product x o.zero) (o.product x o.zero) z z
      (sym (l.product_sum x o.zero o.zero v l.valid_zero l.valid_zero)
      ∙ ap (λ t. o.product x t) (l.sum_zero o.zero l.valid_zero))

  pub zero_product : (x : V) → valid x → o.product o.zero x ≡ o.zero
  zero_product x v = l.product_comm o.zero x l.valid_zero v ∙ product_zero x v

  pub negative_zero : o.negative o.zero ≡ o.zero
  negative_zero = sym (only_negative o.zero o.zero l.valid_zero l.valid_zero (l.sum_zero o.zero l.valid_zero))

  pub negative_negative : (x : V) → valid x → o.negative (o.negative x) ≡ x
  negative_negative x v =
      let n = l.valid_negative x v in
      sym (only_negative (o.negative x) x n v (negative_sum_zero x v))

  pub negative_product : (x y : V) → valid x → valid y → o.product (o.negative x) y ≡ o.negative (o.product x y)
  negative_product x y vx vy =
      let n = l.valid_negative x vx in
      only_negative (o.product x y) (o.product (o.negative x) y) (l.valid_product x y vx vy)
      (l.valid_product (o.negative x) y n vy)
      (sym (sum_product x (o.negative x) y vx n vy)
      ∙ ap (λ t. o.product t y) (l.sum_negative x vx)
      ∙ zero_product y vy)

  pub product_negative : (x y : V) → valid x → valid y → o.product x (o.negative y) ≡ o.negative (o.product x y)
  product_negative x y vx vy =
      l.product_comm x (o.negative y) vx (l.valid_negative y vy)
      ∙ negative_product y x vy vx
      ∙ ap o.negative (l.product_comm y x vy vx)

  -- (a + b) + (c + d) = (a + c) + (b + d)
  pub swap_middle : (a b c d : V) → valid a → valid b → valid c → valid d
      → o.sum (o.sum a b) (o.sum c d) ≡ o.sum (o.sum a c) (o.sum b d)
  swap_middle a b c d va vb vc vd =
      l.sum_assoc a b (o.sum c d) va vb (l.valid_sum c d vc vd)
      ∙ ap (λ t. o.sum a t)
      (sym (l.sum_assoc b c d vb vc vd)
      ∙ ap (λ t. o.sum t d) (l.sum_comm b c vb vc)
      ∙ l.sum_assoc c b d vc vb vd)
      ∙ sym (l.sum_assoc a c (o.sum b d) va vc (l.valid_sum b d vb vd))

  pub negative_sum : (x y : V) → valid x → valid y → o.negative (o.sum x y) ≡ o.sum (o.negative x) (o.negative y)
  negative_sum x y vx vy =
      let nx = l.valid_negative x vx in
      let ny = l.valid_negative y vy in
      sym (only_negative (o.sum x y) (o.sum (o.negative x) (o.negative y)) (l.valid_sum x y vx vy)
      (l.valid_sum (o.negative x) (o.negative y) nx ny)
      (swap_middle x y (o.negative x) (o.negative y) vx vy nx ny
      ∙ (λ i. o.sum (l.sum_negative x vx i) (l.sum_negative y vy i))
      ∙ l.sum_zero o.zero l.valid_zero))

  pub negatives_and_products : NegativesAndProducts V o valid
  negatives_and_products = record {
    zero = product_zero;
    negative_first = negative_product;
    negative_second = product_negative;
    negative_twice = negative_negative;
    negative_of_zero = negative_zero;
    negative_of_sum = negative_sum;
  }

  pub valid_copies : (n : ℕ) → valid (copies o n)
  valid_copies zero = l.valid_zero
  valid_copies (suc n) = l.valid_sum (copies o n) o.one (valid_copies n) l.valid_one
