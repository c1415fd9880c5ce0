-- The numbers modulo 1000003 are an algebra.
use Rattle.std.specs.Prelude.{◌≡◌, ℕ, zero, suc, ◌+◌, ◌-◌, ◌*◌, ◌/◌, ◌%◌, ◌<◌, ◌==◌, Bool, true, false, if◌then◌else◌}
use Rattle.std.proofs.Common.{refl, sym, ap, ◌∙◌, arith}
use Rattle.std.proofs.Math.Nat.{mod-add-mod, add-mod-mod, add-mod, mod-eq_of_lt, mod_self, mul_assoc, mul-add, mul_comm, add_comm}
use Rattle.std.proofs.lemmas.Nat.{mul-mod_first, mul-mod_second, mod_below}
use Rattle.alg_laws.specs.Operations.{IsAlgebra, copies}
use Rattle.alg_laws.specs.Residue.{modulus, residue_valid, residue_ops, residue_recip, inverse_by, fun1_number, fun2_number}

-- A unit is what has an inverse.
abbrev pub residue_unit : ℕ → Type 0
residue_unit x = x * residue_recip x % modulus ≡ 1

-- the laws of a ring, modulo any number
module _ (m : ℕ) where
  mod_sum_assoc : (x y z : ℕ) → ((x + y) % m + z) % m ≡ (x + (y + z) % m) % m
  mod_sum_assoc x y z =
      mod-add-mod (x + y) m z ∙ ap (λ t. t % m) (omega arith) ∙ sym (add-mod-mod x (y + z) m)

  mod_sum_negative : (x : ℕ) → x < m → (x + (m - x) % m) % m ≡ 0
  mod_sum_negative x v = add-mod-mod x (m - x) m ∙ ap (λ t. t % m) (let e : x + (m - x) ≡ m = omega (arith, v) in e) ∙ mod_self m

  mod_product_assoc : (x y z : ℕ) → (x * y % m) * z % m ≡ x * (y * z % m) % m
  mod_product_assoc x y z =
      mul-mod_first (x * y) z m ∙ ap (λ t. t % m) (mul_assoc x y z) ∙ sym (mul-mod_second x (y * z) m)

  mod_product_sum : (x y z : ℕ) → x * ((y + z) % m) % m ≡ (x * y % m + x * z % m) % m
  mod_product_sum x y z =
      mul-mod_second x (y + z) m ∙ ap (λ t. t % m) (mul-add x y z) ∙ add-mod (x * y) (x * z) m

below : (x : ℕ) → residue_valid (x % modulus)
below x = mod_below x modulus (omega arith)

chosen_below : (b : Bool) (t : ℕ) → residue_valid t → residue_valid (if b then t else 0)
chosen_below true t v = v
chosen_below false t v = omega arith

-- the multipliers of the algorithm of Euclid stay below the modulus
inverse_below : (k r t s u : ℕ) → residue_valid t → residue_valid u → residue_valid (inverse_by modulus k r t s u)
inverse_below zero r t s u v w = omega arith
inverse_below (suc k) r t zero u v w = chosen_below (r == 1) t v
inverse_below (suc k) r t (suc s) u v w =
    inverse_below k (suc s) u (r % suc s) ((t + (modulus - (r / suc s) * u % modulus)) % modulus) w
    (below (t + (modulus - (r / suc s) * u % modulus)))

recip_below : (x : ℕ) → residue_valid (residue_recip x)
recip_below x = inverse_below 41 modulus 0 (x % modulus) 1 (omega arith) (omega arith)

pub residue_laws : IsAlgebra residue_ops residue_valid residue_unit
residue_laws = record {
  valid_zero = omega arith;
  valid_one = omega arith;
  valid_sum = λ x y _ _. below (x + y);
  valid_negative = λ x _. below (modulus - x);
  valid_product = λ x y _ _. below (x * y);
  valid_recip = λ x _. recip_below x;
  valid_fun1 = λ f x _. below (x * x + fun1_number f);
  valid_fun2 = λ f x y _ _. below (x * x + x * y + fun2_number f);
  sum_comm = λ x y _ _. ap (λ t. t % modulus) (add_comm x y);
  sum_assoc = λ x y z _ _ _. mod_sum_assoc modulus x y z;
  sum_zero = λ x v. ap (λ t. t % modulus) (let e : x + 0 ≡ x = omega arith in e) ∙ mod-eq_of_lt v;
  sum_negative = λ x v. mod_sum_negative modulus x v;
  product_comm = λ x y _ _. ap (λ t. t % modulus) (mul_comm x y);
  product_assoc = λ x y z _ _ _. mod_product_assoc modulus x y z;
  product_one = λ x v. ap (λ t. t % modulus) (let e : x * 1 ≡ x = omega arith in e) ∙ mod-eq_of_lt v;
  product_sum = λ x y z _ _ _. mod_product_sum modulus x y z;
  product_recip = λ x _ u. u;
}

-- n copies of 1 are n modulo the modulus
pub residue_copies : (n : ℕ) → copies residue_ops n ≡ n % modulus
residue_copies zero = refl
residue_copies (suc n) =
    ap (λ t. (t + 1) % modulus) (residue_copies n)
    ∙ mod-add-mod n modulus 1
    ∙ ap (λ t. t % modulus) (let e : n + 1 ≡ suc n = omega arith in e)
