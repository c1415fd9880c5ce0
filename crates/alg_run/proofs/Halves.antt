-- Copies of 1, added by halves.
use Rattle.std.specs.Prelude.{◌≡◌, ℕ, zero, suc, ◌+◌}
use Rattle.std.proofs.Common.{sym, ap, ◌∙◌, arith}
use Rattle.alg_laws.specs.Operations.{Operations, IsAlgebra, copies}
use Rattle.alg_laws.specs.Rings.{valid_copies}

module _ {V : Type 0} (o : Operations V) (valid unit : V → Type 0) (l : IsAlgebra o valid unit) where
  copies_of_sum : (m n : ℕ) → copies o (m + n) ≡ o.sum (copies o m) (copies o n)
  copies_of_sum m zero =
      ap (copies o) (let e : m + 0 ≡ m = omega arith in e) ∙ sym (l.sum_zero (copies o m) (valid_copies o valid unit l m))
  copies_of_sum m (suc n) =
      ap (copies o) (let e : m + suc n ≡ suc (m + n) = omega arith in e)
      ∙ ap (λ t. o.sum t o.one) (copies_of_sum m n)
      ∙ l.sum_assoc (copies o m) (copies o n) o.one (valid_copies o valid unit l m) (valid_copies o valid unit l n) l.valid_one

  pub even : (n k : ℕ) → n ≡ k + k → copies o n ≡ o.sum (copies o k) (copies o k)
  even n k e = ap (copies o) e ∙ copies_of_sum k k

  pub odd : (n k : ℕ) → n ≡ suc (k + k) → copies o n ≡ o.sum (o.sum (copies o k) (copies o k)) o.one
  odd n k e = ap (copies o) e ∙ ap (λ t. o.sum t o.one) (copies_of_sum k k)
