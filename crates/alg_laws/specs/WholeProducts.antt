-- Two laws of products of whole numbers.
use Rattle.std.specs.Prelude.{◌≡◌, ℕ, ◌+◌, ◌*◌, ℤ, ◌+ℤ◌, ◌*ℤ◌}
use Rattle.std.proofs.Common.{ap, arith}
use Rattle.std.proofs.lemmas.Int.{ints}
use borrow.Author.Differences.{up, down, same_in, product_is}

-- an equation, k times
scaled : (k : ℕ) {m n : ℕ} → m ≡ n → m * k ≡ n * k
scaled k e = ap (λ x. x * k) e

pub *ℤ_assoc : (a b c : ℤ) → (a *ℤ b) *ℤ c ≡ a *ℤ (b *ℤ c)
*ℤ_assoc a b c =
    let ab = product_is a b in
    let bc = product_is b c in
    let left = product_is (a *ℤ b) c in
    let right = product_is a (b *ℤ c) in
    same_in _ _ (omega (
      arith,
      scaled (up c) ab.0,
      scaled (down c) ab.1,
      scaled (down c) ab.0,
      scaled (up c) ab.1,
      scaled (up a) bc.0,
      scaled (down a) bc.1,
      scaled (down a) bc.0,
      scaled (up a) bc.1,
    ))

-- a sum, as the difference of two natural numbers
sum_parts : (b c : ℤ) → up (b +ℤ c) + (down b + down c) ≡ down (b +ℤ c) + (up b + up c)
sum_parts b c = omega (arith, ints)

pub *ℤ-+ℤ : (a b c : ℤ) → a *ℤ (b +ℤ c) ≡ a *ℤ b +ℤ a *ℤ c
*ℤ-+ℤ a b c =
    let s = sum_parts b c in
    let ab = product_is a b in
    let ac = product_is a c in
    let left = product_is a (b +ℤ c) in
    let right = sum_parts (a *ℤ b) (a *ℤ c) in
    same_in _ _ (omega (arith, scaled (up a) s, scaled (down a) s))
