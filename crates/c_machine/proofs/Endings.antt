-- What follows where a sequence gives a value, and elements of lists behind a write.
use Rattle.std.specs.Prelude.{◌≡◌, ℕ, zero, suc, ◌==◌, Bool, true, false, List, [], ◌∷◌, Option, Some, None, slice_get, set}
use Rattle.std.proofs.Common.{refl, arith}
use Rattle.std.proofs.lemmas.Bool.Decides.{nat_tests}
use Rattle.alg_laws.specs.Outcome.{Outcome, gives, ends, ◌>>=◌}
use Rattle.c_machine.specs.Machine.{Stop, found, only_if}

-- a sequence that gives a value
pub then_gives : {E U V : Type 0} (a : Outcome E U) (f : U → Outcome E V) (v : V) → (a >>= f) ≡ gives v
    → (u : U) × (a ≡ gives u) × (f u ≡ gives v)
then_gives (gives u) f v h = (u, refl, h)
then_gives (ends e) f v h = cc (h)

pub found_gives : {V : Type 0} (x : Option V) (v : V) → found x ≡ gives v → x ≡ Some v
found_gives None v h = cc (h)
found_gives (Some w) v h = cc (h)

pub only_if_gives : {V : Type 0} (test : Bool) (a : Outcome Stop V) (v : V) → only_if test a ≡ gives v → (test ≡ true) × (a ≡ gives v)
only_if_gives true a v h = (refl, h)
only_if_gives false a v h = cc (h)

pub value_given : {E V : Type 0} (x y : V) → (let a : Outcome E V = gives x in a) ≡ gives y → x ≡ y
value_given x y h = cc (h)

pub get_set_same : {T : Type 0} (xs : List T) (i : ℕ) (old x : T) → slice_get xs i ≡ Some old → slice_get (set xs i x) i ≡ Some x
get_set_same [] i old x h = cc (h)
get_set_same (y ∷ ys) zero old x h = refl
get_set_same (y ∷ ys) (suc i) old x h = get_set_same ys i old x h

pub get_set_other : {T : Type 0} (xs : List T) (i j : ℕ) (x : T) → (i == j) ≡ false → slice_get (set xs i x) j ≡ slice_get xs j
get_set_other [] i j x h = refl
get_set_other (y ∷ ys) zero zero x h = cc (h)
get_set_other (y ∷ ys) zero (suc j) x h = refl
get_set_other (y ∷ ys) (suc i) zero x h = refl
get_set_other (y ∷ ys) (suc i) (suc j) x h = get_set_other ys i j x (grind (arith, nat_tests))
