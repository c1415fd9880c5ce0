-- What follows from related values and related outcomes.
use Rattle.std.specs.Prelude.{◌≡◌}
use Rattle.std.proofs.Common.{refl, ap, subst}
use Rattle.alg_laws.specs.declared.dual.Dual.{Dual}
use Rattle.alg_laws.specs.declared.number.Number.{Number}
use Rattle.alg_laws.specs.declared.number.Number.TheVariants.{Real, Int}
use Rattle.alg_laws.specs.NumberParts.{main_of, part_of, lifted, NumberValid}
use Rattle.alg_laws.specs.Operations.{Operations}
use Rattle.alg_laws.specs.Outcome.{Outcome, gives, ends}
use Rattle.alg_laws.specs.Related.{NumbersRelated, reals, integers, OutcomesRelated, both_give, both_end, HasMain, IsValid, IsLifted}

-- where one gives a value, the other gives a related one
pub gives_related : {E A B : Type 0} (P : A → B → Type 0) {a : Outcome E A} {b : Outcome E B} (x : A)
    → OutcomesRelated P a b → a ≡ gives x → (y : B) × (b ≡ gives y) × P x y
gives_related P x (both_give {a = u} {b = v} h) e =
    let same : u ≡ x = cc (e) in
    (v, refl, subst (λ t. P t v) same h)
gives_related P x both_end e = cc (e)

pub gave_related : {E A B : Type 0} (P : A → B → Type 0) {a : Outcome E A} {b : Outcome E B} (y : B)
    → OutcomesRelated P a b → b ≡ gives y → (x : A) × (a ≡ gives x) × P x y
gave_related P y (both_give {a = u} {b = v} h) e =
    let same : v ≡ y = cc (e) in
    (u, refl, subst (λ t. P u t) same h)
gave_related P y both_end e = cc (e)

-- where one ends early, so does the other
pub ends_related : {E A B : Type 0} (P : A → B → Type 0) {a : Outcome E A} {b : Outcome E B} (e : E)
    → OutcomesRelated P a b → a ≡ ends e → b ≡ ends e
ends_related P e (both_give h) k = cc (k)
ends_related P e both_end k = (let t = k in cc (t))

pub ended_related : {E A B : Type 0} (P : A → B → Type 0) {a : Outcome E A} {b : Outcome E B} (e : E)
    → OutcomesRelated P a b → b ≡ ends e → a ≡ ends e
ended_related P e (both_give h) k = cc (k)
ended_related P e both_end k = (let t = k in cc (t))

-- a weaker relation
pub outcomes_weaker : {E A B : Type 0} (P Q : A → B → Type 0) → ((x : A) (y : B) → P x y → Q x y)
    → {a : Outcome E A} {b : Outcome E B} → OutcomesRelated P a b → OutcomesRelated Q a b
outcomes_weaker P Q w (both_give {a = x} {b = y} h) = both_give (w x y h)
outcomes_weaker P Q w both_end = both_end

pub numbers_weaker : {V W : Type 0} (P Q : V → W → Type 0) → ((x : V) (y : W) → P x y → Q x y)
    → {v : Number V} {w : Number W} → NumbersRelated P v w → NumbersRelated Q v w
numbers_weaker P Q k (reals {x = x} {u = u} h) = reals (k x u h)
numbers_weaker P Q k integers = integers

-- equal outcomes are related by equality, and the other way round
pub outcomes_equal : {E A : Type 0} {a b : Outcome E A} → OutcomesRelated ◌≡◌ a b → a ≡ b
outcomes_equal (both_give h) = ap gives h
outcomes_equal both_end = refl

pub outcomes_same : {E A : Type 0} (P : A → A → Type 0) → ((x : A) → P x x) → (a : Outcome E A) → OutcomesRelated P a a
outcomes_same P h (gives x) = both_give (h x)
outcomes_same P h (ends e) = both_end

pub numbers_equal : {V : Type 0} {v w : Number V} → NumbersRelated ◌≡◌ v w → v ≡ w
numbers_equal (reals h) = ap Real h
numbers_equal integers = refl

-- the standard relations, on values of both types
pub has_main : {V : Type 0} (v : Number (Dual V)) → NumbersRelated HasMain v (main_of v)
has_main (Real d) = reals refl
has_main (Int i) = integers

pub main_is : {V : Type 0} {v : Number (Dual V)} {w : Number V} → NumbersRelated HasMain v w → main_of v ≡ w
main_is (reals h) = ap Real h
main_is integers = refl

pub is_valid : {V : Type 0} (valid : V → Type 0) (v : Number V) → NumberValid valid v → NumbersRelated (IsValid valid) v v
is_valid valid (Real x) h = reals (refl, h)
is_valid valid (Int i) h = integers

pub valid_is : {V : Type 0} (valid : V → Type 0) {v w : Number V} → NumbersRelated (IsValid valid) v w → NumberValid valid v
valid_is valid (reals h) = h.1
valid_is valid integers = tt

pub is_lifted : {V : Type 0} (o : Operations V) (valid : V → Type 0) (v : Number V) → NumberValid valid v
    → NumbersRelated (IsLifted o valid) (lifted o v) v
is_lifted o valid (Real x) h = reals (refl, h)
is_lifted o valid (Int i) h = integers

pub lifted_is : {V : Type 0} (o : Operations V) (valid : V → Type 0) {v : Number (Dual V)} {w : Number V}
    → NumbersRelated (IsLifted o valid) v w → v ≡ lifted o w
lifted_is o valid (reals h) = ap Real h.0
lifted_is o valid integers = refl

-- a value that doesn't move has the part 0
pub part_is_zero : {V : Type 0} (o : Operations V) (valid : V → Type 0) {v : Number (Dual V)} {w : Number V}
    → NumbersRelated (IsLifted o valid) v w → part_of o v ≡ o.zero
part_is_zero o valid (reals h) = (λ i. (h.0 i).part)
part_is_zero o valid integers = refl
