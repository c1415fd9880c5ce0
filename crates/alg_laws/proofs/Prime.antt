-- 1000003 is a prime, so that each residue but 0 has an inverse.
use Rattle.std.specs.Prelude.{◌≡◌, ◌⊎◌, ℕ, zero, suc, ◌*◌, ◌%◌, ◌<◌, ◌≤◌, ◌==◌, ◌&&◌, ◌||◌, Bool, true, false, not, nat_lt}
use Rattle.std.proofs.Common.{refl, sym, ap, ◌∙◌, arith, inl, inr}
use Rattle.std.proofs.Math.Nat.{eq-or-lt_of_le, mul-mod_right, mul-le-mul_right, mul_comm}
use Rattle.std.proofs.lemmas.Bool.{ltb-true, ltb-false}
use Rattle.alg_laws.specs.Residue.{modulus}

-- no number from 2 on and below k goes into the modulus
abbrev no_factor : ℕ → Bool
no_factor zero = true
no_factor (suc k) = (nat_lt k 2 || not (modulus % k == 0)) && no_factor k

tried : no_factor 1001 ≡ true
tried = refl

both_hold : (a b : Bool) → (a && b) ≡ true → (a ≡ true) × (b ≡ true)
both_hold true b h = (refl, h)
both_hold false b h = (let e : false ≡ true = h in cc)

by_size : (k : ℕ) (b : Bool) → nat_lt k 2 ≡ b → (b || not (modulus % k == 0)) ≡ true → 2 ≤ k → modulus % k ≡ 0 → ⊥
by_size k true s h le e = absurd (omega (arith, ltb-true k 2 s, le))
by_size k false s h le e = (let f : false ≡ true = ap (λ t. not (t == 0)) (sym e) ∙ h in cc)

at_last : (k : ℕ) → no_factor (suc k) ≡ true → 2 ≤ k → modulus % k ≡ 0 → ⊥
at_last k h le e = by_size k (nat_lt k 2) refl (both_hold (nat_lt k 2 || not (modulus % k == 0)) (no_factor k) h).0 le e

none_here : (k j : ℕ) → no_factor (suc k) ≡ true → ((no_factor k ≡ true) → j < k → 2 ≤ j → modulus % j ≡ 0 → ⊥)
    → (j ≡ k) ⊎ (j < k) → 2 ≤ j → modulus % j ≡ 0 → ⊥
none_here k j h below (inl s) le e =
    at_last k h (let two : 2 ≤ k = omega (arith, s, le) in two) (ap (λ t. modulus % t) (sym s) ∙ e)
none_here k j h below (inr b) le e =
    below (both_hold (nat_lt k 2 || not (modulus % k == 0)) (no_factor k) h).1 b le e

none_goes : (k : ℕ) → no_factor k ≡ true → (j : ℕ) → j < k → 2 ≤ j → modulus % j ≡ 0 → ⊥
none_goes zero h j b le e = absurd (omega (arith, b))
none_goes (suc k) h j b le e =
    none_here k j h (λ g c l f. none_goes k g j c l f) (let l : j ≤ k = omega (arith, b) in eq-or-lt_of_le l) le e

small_factor : (d c : ℕ) → d ≤ 1000 → d * c ≡ modulus → d ≡ 1
small_factor zero c le h = absurd (omega (arith, h))
small_factor (suc zero) c le h = refl
small_factor (suc (suc n)) c le h =
    absurd (none_goes 1001 tried (suc (suc n)) (omega (arith, le)) (omega arith)
    (ap (λ t. t % suc (suc n)) (sym h) ∙ mul-mod_right (suc (suc n)) c))

by_halves : (d c : ℕ) → d * c ≡ modulus → (d ≤ 1000) ⊎ (1000 < d) → (d ≡ 1) ⊎ (d ≡ modulus)
by_halves d c h (inl le) = inl (small_factor d c le h)
by_halves d c h (inr b) =
    let most : 1001 * c ≤ d * c = mul-le-mul_right c (let l : 1001 ≤ d = omega (arith, b) in l) in
    let other : c ≡ 1 = small_factor c d (omega (arith, most, h)) (mul_comm c d ∙ h) in
    inr (let one : d * 1 ≡ modulus = ap (λ t. d * t) (sym other) ∙ h in omega (arith, one))

half_by : (d : ℕ) (b : Bool) → nat_lt 1000 d ≡ b → (d ≤ 1000) ⊎ (1000 < d)
half_by d true e = inr (ltb-true 1000 d e)
half_by d false e = inl (ltb-false 1000 d e)

either_half : (d : ℕ) → (d ≤ 1000) ⊎ (1000 < d)
either_half d = half_by d (nat_lt 1000 d) refl

pub is_prime : (d c : ℕ) → d * c ≡ modulus → (d ≡ 1) ⊎ (d ≡ modulus)
is_prime d c h = by_halves d c h (either_half d)
