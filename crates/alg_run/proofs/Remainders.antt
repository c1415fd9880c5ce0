-- The remainder of a whole number modulo 1000003 is its value there: so many copies of 1, negated where it is negative.
use Rattle.std.specs.Prelude.{◌≡◌, ◌⊎◌, ℕ, suc, ◌+◌, ◌-◌, ◌%◌, ◌<◌, ◌≤◌, ℤ, pos, negsuc}
use Rattle.std.specs.Int.{int_rem_euclid}
use Rattle.std.proofs.Common.{sym, ap, ◌∙◌, arith, inl, inr}
use Rattle.std.proofs.Math.Nat.{mod-eq_of_lt, mod_self, mod-add-mod, eq-or-lt_of_le}
use Rattle.std.proofs.lemmas.Nat.{mod_below}
use Rattle.alg_laws.specs.LiteralValue.{whole_value}
use Rattle.alg_laws.specs.Residue.{modulus, residue_ops}
use Rattle.alg_laws.specs.ResidueLaws.{residue_copies}

-- what is left to the next multiple of m, of a number with the remainder r
to_next : (m r n : ℕ) → 0 < m → n % m ≡ (r + 1) % m → (r + 1 ≡ m) ⊎ (r + 1 < m) → m - 1 - r ≡ (m - n % m) % m
to_next m r n p e (inl all) =
    let none : n % m ≡ 0 = e ∙ ap (λ t. t % m) all ∙ mod_self m in
    (let z : m - 1 - r ≡ 0 = omega (arith, all) in z)
    ∙ sym (ap (λ t. (m - t) % m) none ∙ ap (λ t. t % m) (let s : m - 0 ≡ m = omega arith in s) ∙ mod_self m)
to_next m r n p e (inr some) =
    let next : n % m ≡ r + 1 = e ∙ mod-eq_of_lt some in
    (let s : m - 1 - r ≡ m - n % m = omega (arith, next) in s)
    ∙ sym (mod-eq_of_lt (let b : m - n % m < m = omega (arith, next, p) in b))

left_of_negative : (m n : ℕ) → 0 < m → m - 1 - n % m ≡ (m - suc n % m) % m
left_of_negative m n p =
    let low : n % m < m = mod_below n m p in
    to_next m (n % m) (suc n) p
    (ap (λ t. t % m) (let e : suc n ≡ n + 1 = omega arith in e) ∙ sym (mod-add-mod n m 1))
    (eq-or-lt_of_le (let b : n % m + 1 ≤ m = omega (arith, low) in b))

pub remainder_is_value : (z : ℤ) → int_rem_euclid z (pos modulus) ≡ pos (whole_value residue_ops z)
remainder_is_value (pos n) = ap pos (sym (residue_copies n))
remainder_is_value (negsuc n) =
    ap pos (left_of_negative modulus n (omega arith) ∙ ap (λ t. (modulus - t) % modulus) (sym (residue_copies (suc n))))
