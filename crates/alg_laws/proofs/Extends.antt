-- A computation with more turns answers the same, except where it ended for want of one.
use Rattle.std.specs.Prelude.{◌≡◌, ℕ, zero, suc, ◌≤◌, Bool, true, false, if◌then◌else◌}
use Rattle.std.proofs.Common.{arith}
use Rattle.alg_laws.specs.Outcome.{Outcome, gives, ends, ◌>>=◌}
use Rattle.alg_laws.specs.Loop.{turns}

-- the first ended for want of a turn, or both are the same
pub data Extends {E A : Type 0} (too_many : E) : Outcome E A → Outcome E A → Type 0 where
  short : {b : Outcome E A} → Extends too_many (ends too_many) b
  same : {a : Outcome E A} → Extends too_many a a

pub gives_extended : {E A : Type 0} (too_many : E) {a b : Outcome E A} (x : A) → Extends too_many a b → a ≡ gives x → b ≡ gives x
gives_extended too_many x short h = cc (h)
gives_extended too_many x same h = h

pub ends_extended : {E A : Type 0} (too_many e : E) {a b : Outcome E A} → Extends too_many a b → (e ≡ too_many → ⊥) → a ≡ ends e
    → b ≡ ends e
ends_extended too_many e short other h = absurd (other (let k : e ≡ too_many = cc (h) in k))
ends_extended too_many e same other h = h

then_same : {E A B : Type 0} (too_many : E) (a : Outcome E A) (f g : A → Outcome E B) → ((x : A) → Extends too_many (f x) (g x))
    → Extends too_many (a >>= f) (a >>= g)
then_same too_many (gives x) f g h = h x
then_same too_many (ends e) f g h = same

pub then_extends : {E A B : Type 0} (too_many : E) {a b : Outcome E A} (f g : A → Outcome E B) → Extends too_many a b
    → ((x : A) → Extends too_many (f x) (g x)) → Extends too_many (a >>= f) (b >>= g)
then_extends too_many f g short h = short
then_extends too_many f g (same {a = a}) h = then_same too_many a f g h

pub chosen_extends : {E A : Type 0} (too_many : E) (c : Bool) {x y u v : Outcome E A} → Extends too_many x u → Extends too_many y v
    → Extends too_many (if c then x else y) (if c then u else v)
chosen_extends too_many true h k = h
chosen_extends too_many false h k = k

pub turns_extends : {E S T : Type 0} (too_many : E) (before before' : S → Outcome E T) (goes : T → Bool)
    (turn turn' : T → Outcome E S)
    → ((s : S) → Extends too_many (before s) (before' s)) → ((t : T) → Extends too_many (turn t) (turn' t))
    → (n m : ℕ) → n ≤ m → (s : S)
    → Extends too_many (turns too_many before goes turn n s) (turns too_many before' goes turn' m s)
turns_extends too_many before before' goes turn turn' h k zero zero le s =
    then_extends too_many _ _ (h s) (λ t. chosen_extends too_many (goes t) short same)
turns_extends too_many before before' goes turn turn' h k zero (suc m) le s =
    then_extends too_many _ _ (h s) (λ t. chosen_extends too_many (goes t) short same)
turns_extends too_many before before' goes turn turn' h k (suc n) zero le s = absurd (omega (arith, le))
turns_extends too_many before before' goes turn turn' h k (suc n) (suc m) le s =
    then_extends too_many _ _ (h s)
    (λ t. chosen_extends too_many (goes t)
    (then_extends too_many _ _ (k t)
    (λ r. turns_extends too_many before before' goes turn turn' h k n m (omega (arith, le)) r))
    same)
