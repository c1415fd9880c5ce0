-- Tests that are joined by `&&` and `||`.
use Rattle.std.proofs.Common.{◌≡◌, refl, inl, inr, ◌⊎◌}
use Rattle.std.specs.Prelude.{Bool, true, false, not, ◌&&◌, ◌||◌}

pub not_true : (b : Bool) → (b ≡ true → ⊥) → b ≡ false
not_true true n = absurd (n refl)
not_true false n = refl

pub true_not_false : {b : Bool} → b ≡ true → b ≡ false → ⊥
true_not_false e f = cc

pub and_left : (a b : Bool) → a && b ≡ true → a ≡ true
and_left true b e = refl
and_left false b e = e

pub and_right : (a b : Bool) → a && b ≡ true → b ≡ true
and_right true b e = e
and_right false b e = absurd (true_not_false e refl)

pub and_true : (a b : Bool) → a ≡ true → b ≡ true → a && b ≡ true
and_true true b e f = f
and_true false b e f = e

pub and_false : (a b : Bool) → b ≡ false → a && b ≡ false
and_false true b f = f
and_false false b f = refl

pub or_left : (a b : Bool) → a ≡ true → a || b ≡ true
or_left true b e = refl
or_left false b e = absurd (true_not_false e refl)

pub or_right : (a b : Bool) → b ≡ true → a || b ≡ true
or_right true b f = refl
or_right false b f = f

pub or_cases : (a b : Bool) → a || b ≡ true → (a ≡ true) ⊎ (b ≡ true)
or_cases true b e = inl refl
or_cases false b e = inr e

pub or_false : (a b : Bool) → a ≡ false → b ≡ false → a || b ≡ false
or_false true b e f = e
or_false false b e f = f

pub not_false : (b : Bool) → b ≡ false → not b ≡ true
not_false true e = absurd (true_not_false refl e)
not_false false e = refl
