-- The algorithm of Euclid finds the inverse where there is one.
use Rattle.std.specs.Prelude.{◌≡◌, ℕ, zero, suc, ◌+◌, ◌-◌, ◌*◌, ◌/◌, ◌%◌, ◌^◌, ◌<◌, ◌≤◌, ◌⊎◌, ◌==◌, if◌then◌else◌}
use Rattle.std.proofs.Common.{sym, ap, ◌∙◌, arith, inl, inr}
use Rattle.std.proofs.Math.Nat.{mod-add-mod, add-mod-mod, mod_self, mod-mod, mul_assoc, mul-add, add-mul, mul_comm, add_comm, div-add-mod, add-mul-mod_self_left, mul-le-mul_left, mul-suc, two-pow-succ, mod-eq_of_lt}
use Rattle.std.proofs.lemmas.Nat.{mul-mod_first, mul-mod_second, mod_below, div-add-mod'}
use Rattle.alg_laws.specs.Residue.{modulus, residue_recip, inverse_by}
use Rattle.alg_laws.proofs.Prime.{is_prime}

-- d goes into n
abbrev Divides : ℕ → ℕ → Type 0
Divides d n = (c : ℕ) × (d * c ≡ n)

-- nothing but 1 goes into both
abbrev Coprime : ℕ → ℕ → Type 0
Coprime r s = (d : ℕ) → Divides d r → Divides d s → d ≡ 1

module _ (m : ℕ) (positive : 0 < m) where
  taken_back : (a c : ℕ) → ((a + c) + (m - c % m)) % m ≡ a % m
  taken_back a c =
      let low : c % m < m = mod_below c m positive in
      let whole : m * (c / m) + c % m ≡ c = div-add-mod c m in
      let spread : m * (c / m + 1) ≡ m * (c / m) + m * 1 = mul-add m (c / m) 1 in
      let sum : (a + c) + (m - c % m) ≡ a + m * (c / m + 1) = omega (arith, low, whole, spread) in
      ap (λ t. t % m) sum ∙ add-mul-mod_self_left a m (c / m + 1)

  cancel : (a b c : ℕ) → (a + c) % m ≡ (b + c) % m → a % m ≡ b % m
  cancel a b c e =
      sym (taken_back a c)
      ∙ sym (mod-add-mod (a + c) m (m - c % m))
      ∙ ap (λ t. (t + (m - c % m)) % m) e
      ∙ mod-add-mod (b + c) m (m - c % m)
      ∙ taken_back b c

  -- the multiplier of the next remainder
  multiplier : (x t r u s q rest : ℕ) → (t * x) % m ≡ r % m → (u * x) % m ≡ s % m → q * s + rest ≡ r
      → ((t + (m - q * u % m)) % m * x) % m ≡ rest % m
  multiplier x t r u s q rest ht hs e =
      let w = q * u % m in
      let low : q * u % m < m = mod_below (q * u) m positive in
      let taken : ((q * u % m) * x) % m ≡ (q * s) % m =
      mul-mod_first (q * u) x m
      ∙ ap (λ y. y % m) (mul_assoc q u x)
      ∙ sym (mul-mod_second q (u * x) m)
      ∙ ap (λ y. (q * y) % m) hs
      ∙ mul-mod_second q s m in
      let sum : (t + (m - q * u % m)) * x + (q * u % m) * x ≡ t * x + m * x =
      sym (add-mul (t + (m - q * u % m)) (q * u % m) x)
      ∙ ap (λ y. y * x) (let k : (t + (m - q * u % m)) + q * u % m ≡ t + m = omega (arith, low) in k)
      ∙ add-mul t m x in
      mul-mod_first (t + (m - q * u % m)) x m
      ∙ cancel ((t + (m - q * u % m)) * x) rest (q * s)
      (sym (add-mod-mod ((t + (m - q * u % m)) * x) (q * s) m)
      ∙ ap (λ y. ((t + (m - q * u % m)) * x + y) % m) (sym taken)
      ∙ add-mod-mod ((t + (m - q * u % m)) * x) ((q * u % m) * x) m
      ∙ ap (λ y. y % m) sum
      ∙ add-mul-mod_self_left (t * x) m x
      ∙ ht
      ∙ ap (λ y. y % m) (sym e ∙ add_comm (q * s) rest))

rest_twice : (s q rest r : ℕ) → s * q + rest ≡ r → rest < s → s ≤ r → rest + rest ≤ r
rest_twice s zero rest r e low le = absurd (omega (arith, e, low, le))
rest_twice s (suc q) rest r e low le = omega (arith, mul-suc s q, e, low)

-- a step of the algorithm halves the product of the remainders
halved : (r s n : ℕ) → 0 < s → s ≤ r → r * s < n + n → s * (r % s) < n
halved r s n p le h =
    let twice : r % s + r % s ≤ r = rest_twice s (r / s) (r % s) r (div-add-mod r s) (mod_below r s p) le in
    let most : s * (r % s + r % s) ≤ s * r = mul-le-mul_left s twice in
    omega (arith, most, mul-add s (r % s) (r % s), mul_comm s r, h)

-- what goes into two successive remainders goes into the one before
coprime_next : (r s : ℕ) → Coprime r s → Coprime s (r % s)
coprime_next r s h d a b =
    h d (
      a.0 * (r / s) + b.0,
      mul-add d (a.0 * (r / s)) b.0
          ∙ (λ i. sym (mul_assoc d a.0 (r / s)) i + b.1 i)
          ∙ ap (λ y. y * (r / s) + r % s) a.1
          ∙ div-add-mod r s,
    )
    a

one_by : (r t : ℕ) → r ≡ 1 → (if r == 1 then t else 0) ≡ t
one_by r t e = ap (λ y. if y == 1 then t else 0) e

module _ (m : ℕ) (positive : 0 < m) (x : ℕ) where
  pub inverse_right : (k r t s u : ℕ) → (t * x) % m ≡ r % m → (u * x) % m ≡ s % m → Coprime r s → s < r → r * s < 2 ^ k
      → (inverse_by m (suc k) r t s u * x) % m ≡ 1 % m
  inverse_right k r t zero u ht hs co le h =
      let one : r ≡ 1 = co r (1, (let e : r * 1 ≡ r = omega arith in e)) (0, (let e : r * 0 ≡ 0 = omega arith in e)) in
      ap (λ y. (y * x) % m) (one_by r t one) ∙ ht ∙ ap (λ y. y % m) one
  inverse_right zero r t (suc s) u ht hs co le h =
      absurd (omega (arith, mul-suc r s, le, h))
  inverse_right (suc k) r t (suc s) u ht hs co le h =
      inverse_right k (suc s) u (r % suc s) ((t + (m - (r / suc s) * u % m)) % m) hs
      (multiplier m positive x t r u (suc s) (r / suc s) (r % suc s) ht hs (div-add-mod' r (suc s)))
      (coprime_next r (suc s) co)
      (mod_below r (suc s) (omega arith))
      (halved r (suc s) (2 ^ k) (omega arith) (omega (arith, le))
      (let e : r * suc s < 2 ^ k + 2 ^ k = omega (arith, two-pow-succ k, h) in e))

-- what goes into a prime and into a smaller number but 0, is 1
coprime_by : (x d c e : ℕ) → 0 < x → x < modulus → d * e ≡ x → (d ≡ 1) ⊎ (d ≡ modulus) → d ≡ 1
coprime_by x d c e p b h (inl one) = one
coprime_by x d c zero p b h (inr all) = absurd (omega (arith, p, h))
coprime_by x d c (suc e) p b h (inr all) = absurd (omega (arith, mul-suc d e, h, b, all))

pub residue_inverse : (x : ℕ) → 0 < x → x < modulus → x * residue_recip x % modulus ≡ 1
residue_inverse x p b =
    let same : x % modulus ≡ x = mod-eq_of_lt b in
    let zero_times : 0 * x ≡ 0 = omega arith in
    let once : 1 * x ≡ x = omega arith in
    ap (λ y. y % modulus) (mul_comm x (residue_recip x))
    ∙ inverse_right modulus (omega arith) x 40 modulus 0 (x % modulus) 1
    (ap (λ y. y % modulus) zero_times ∙ sym (mod_self modulus))
    (ap (λ y. y % modulus) once ∙ sym (mod-mod x modulus))
    (λ d m r. coprime_by x d m.0 r.0 p b (r.1 ∙ same) (is_prime d m.0 m.1))
    (omega (arith, same, b))
    (omega (arith, same, b))
