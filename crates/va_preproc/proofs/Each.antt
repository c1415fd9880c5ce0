-- A property of each element of a list, or of what an option has.
use Rattle.std.proofs.Common.{◌<◌, ℕ, zero, suc, List, [], ◌∷◌, ◌++◌, length, take, drop, arith}
use Rattle.std.specs.Prelude.{Option, Some, None, All, Contains, map}
use Rattle.std.proofs.lemmas.List.Elements.{Contains-get_or}

abbrev pub Each : {X : Type 0} → (X → Type 0) → List X → Type 0
Each P [] = Unit {0}
Each P (x ∷ xs) = P x × Each P xs

abbrev pub InOption : {X : Type 0} → (X → Type 0) → Option X → Type 0
InOption P None = Unit {0}
InOption P (Some x) = P x

pub each_map : {X : Type 0} (P Q : X → Type 0) → ((x : X) → P x → Q x) → (xs : List X) → Each P xs → Each Q xs
each_map P Q f [] e = tt
each_map P Q f (x ∷ xs) e = (f x e.0, each_map P Q f xs e.1)

pub each_append : {X : Type 0} (P : X → Type 0) (xs ys : List X) → Each P xs → Each P ys → Each P (xs ++ ys)
each_append P [] ys e f = f
each_append P (x ∷ xs) ys e f = (e.0, each_append P xs ys e.1 f)

pub each_take : {X : Type 0} (P : X → Type 0) (n : ℕ) (xs : List X) → Each P xs → Each P (take n xs)
each_take P zero xs e = tt
each_take P (suc n) [] e = tt
each_take P (suc n) (x ∷ xs) e = (e.0, each_take P n xs e.1)

pub each_drop : {X : Type 0} (P : X → Type 0) (n : ℕ) (xs : List X) → Each P xs → Each P (drop n xs)
each_drop P zero xs e = e
each_drop P (suc n) [] e = tt
each_drop P (suc n) (x ∷ xs) e = each_drop P n xs e.1

shorter : (k n : ℕ) → suc k < suc n → k < n
shorter k n h = omega arith

longer : (k n : ℕ) → k < n → suc k < suc n
longer k n h = omega arith

none_below : (k : ℕ) → k < 0 → ⊥
none_below k h = omega arith

pub all_each : {X : Type 0} (P : X → Type 0) (xs : List X) → Each P xs → All P xs
all_each P [] e k d h = absurd (none_below k h)
all_each P (x ∷ xs) e zero d h = e.0
all_each P (x ∷ xs) e (suc k) d h = all_each P xs e.1 k d (shorter k (length xs) h)

pub each_all : {X : Type 0} (P : X → Type 0) (xs : List X) → All P xs → Each P xs
each_all P [] h = tt
each_all P (x ∷ xs) h = (h zero x (longer_zero (length xs)), each_all P xs (λ k d below. h (suc k) d (longer k (length xs) below)))
  where
    longer_zero : (n : ℕ) → 0 < suc n
    longer_zero n = omega arith

-- a list has each of its elements
pub each_contained : {X : Type 0} (xs : List X) → Each (Contains xs) xs
each_contained xs = each_all (Contains xs) xs (λ k d below. Contains-get_or xs k d below)

pub each_of_map : {X Y : Type 0} (P : Y → Type 0) (f : X → Y) (xs : List X) → Each (λ x. P (f x)) xs → Each P (map f xs)
each_of_map P f [] e = tt
each_of_map P f (x ∷ xs) e = (e.0, each_of_map P f xs e.1)

pub each_both : {X : Type 0} (P Q : X → Type 0) (xs : List X) → Each P xs → Each Q xs → Each (λ x. P x × Q x) xs
each_both P Q [] e f = tt
each_both P Q (x ∷ xs) e f = ((e.0, f.0), each_both P Q xs e.1 f.1)
