-- A fact of every algebra, as a clause can say it: at the algebra of a type parameter, and at the dual numbers over it, one,
-- two and three deep. Since the parameter is free, this is every algebra.
use Rattle.alg_laws.specs.Operations.{Operations, IsAlgebra}
use Rattle.alg_laws.specs.Dual.{dual, dual_valid}
use Rattle.alg_laws.specs.DualLaws.{dual_laws}

-- Such a fact speaks of the values, the operations, and which of the values are valid.
abbrev pub Fact : Type 1
Fact = (D : Type 0) → Operations D → (D → Type 0) → Type 0

-- It holds at the algebra and at its dual numbers up to three deep.
pub record AtFour {V : Type 0} (o : Operations V) (valid : V → Type 0) (P : Fact) : Type 0 where
  pub first : P _ o valid
  pub second : P _ (dual o) (dual_valid valid)
  pub third : P _ (dual (dual o)) (dual_valid (dual_valid valid))
  pub fourth : P _ (dual (dual (dual o))) (dual_valid (dual_valid (dual_valid valid)))

-- The same for a fact that itself speaks of the dual numbers over its algebra: three are enough to reach the fourth.
pub record AtThree {V : Type 0} (o : Operations V) (valid : V → Type 0) (P : Fact) : Type 0 where
  pub first : P _ o valid
  pub second : P _ (dual o) (dual_valid valid)
  pub third : P _ (dual (dual o)) (dual_valid (dual_valid valid))

-- What holds of every algebra holds at the four.
pub at_four : {V : Type 0} (o : Operations V) (valid unit : V → Type 0) → IsAlgebra o valid unit → (P : Fact)
    → ((D : Type 0) (e : Operations D) (v u : D → Type 0) → IsAlgebra e v u → P D e v)
    → AtFour o valid P
at_four o valid unit l P h =
    let l1 = dual_laws o valid unit l in
    let l2 = dual_laws _ _ _ l1 in
    let l3 = dual_laws _ _ _ l2 in
    record { first = h _ o valid unit l; second = h _ _ _ _ l1; third = h _ _ _ _ l2; fourth = h _ _ _ _ l3 }

-- And at the three.
pub at_three : {V : Type 0} (o : Operations V) (valid unit : V → Type 0) → IsAlgebra o valid unit → (P : Fact)
    → ((D : Type 0) (e : Operations D) (v u : D → Type 0) → IsAlgebra e v u → P D e v)
    → AtThree o valid P
at_three o valid unit l P h =
    let l1 = dual_laws o valid unit l in
    let l2 = dual_laws _ _ _ l1 in
    record { first = h _ o valid unit l; second = h _ _ _ _ l1; third = h _ _ _ _ l2 }
