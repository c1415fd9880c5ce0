-- A step of Euclid's algorithm halves the product of the remainders, so the steps that the definition allows are enough.
use Rattle.std.specs.Prelude.{◌≡◌, ℕ, zero, suc, ◌+◌, ◌-◌, ◌*◌, ◌/◌, ◌%◌, ◌^◌, ◌<◌, ◌≤◌}
use Rattle.std.proofs.Common.{arith}
use Rattle.std.proofs.Math.Nat.{mul-add, mul_comm, div-add-mod, mul-le-mul_left, mul-suc, two-pow-succ}
use Rattle.std.proofs.lemmas.Nat.{mod_below}
use Rattle.alg_laws.specs.Residue.{modulus, inverse_by}

rest_twice : (s q rest r : ℕ) → s * q + rest ≡ r → rest < s → s ≤ r → rest + rest ≤ r
rest_twice s zero rest r e low le = absurd (omega (arith, e, low, le))
rest_twice s (suc q) rest r e low le = omega (arith, mul-suc s q, e, low)

halved : (r s n : ℕ) → 0 < s → s ≤ r → r * s < n + n → s * (r % s) < n
halved r s n p le h =
    let twice : r % s + r % s ≤ r = rest_twice s (r / s) (r % s) r (div-add-mod r s) (mod_below r s p) le in
    let most : s * (r % s + r % s) ≤ s * r = mul-le-mul_left s twice in
    omega (arith, most, mul-add s (r % s) (r % s), mul_comm s r, h)

-- the algorithm comes to this value from these remainders, in steps enough
abbrev pub ComesTo : (value r t s u : ℕ) → Type 0
ComesTo value r t s u = (k : ℕ) × (r * s < 2 ^ k) × (inverse_by modulus (suc k) r t s u ≡ value)

pub after_step : (value r t s u : ℕ) → 0 < s → s ≤ r → ComesTo value r t s u
    → ComesTo value s u (r % s) ((t + (modulus - r / s * u % modulus)) % modulus)
after_step value r t zero u p le h = absurd (omega (arith, p))
after_step value r t (suc s) u p le (zero, b, e) = absurd (omega (arith, mul-suc r s, le, b))
after_step value r t (suc s) u p le (suc k, b, e) =
    (k, halved r (suc s) (2 ^ k) p le (let d : r * suc s < 2 ^ k + 2 ^ k = omega (arith, two-pow-succ k, b) in d), e)
