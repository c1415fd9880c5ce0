-- How a computation ends: with a value, or early, with a reason for it. The type of early ends is a parameter.
use Rattle.std.specs.Prelude.{◌≡◌}

pub data Outcome (E V : Type 0) : Type 0 where
  gives : V → Outcome E V
  ends : E → Outcome E V

infixl 10 ◌>>=◌
-- One computation after another: it goes on with the value, and the first early end is the answer.
abbrev pub ◌>>=◌ : {E V W : Type 0} → Outcome E V → (V → Outcome E W) → Outcome E W
gives v >>= go = go v
ends e >>= go = ends e

-- The same computation among more early ends.
abbrev pub among : {E F V : Type 0} → (E → F) → Outcome E V → Outcome F V
among f (gives v) = gives v
among f (ends e) = ends (f e)

-- In a sequence it doesn't matter how it is grouped, a value by itself adds nothing, and more early ends change nothing.
pub record SequencesRegroup (E F U V W : Type 0) : Type 0 where
  pub grouped : (a : Outcome E U) (f : U → Outcome E V) (g : V → Outcome E W) → ((a >>= f) >>= g) ≡ (a >>= λ u. f u >>= g)
  pub first : (u : U) (f : U → Outcome E V) → (gives u >>= f) ≡ f u
  pub last : (a : Outcome E U) → (a >>= gives) ≡ a
  pub early : (e : E) (f : U → Outcome E V) → (ends e >>= f) ≡ ends e
  pub among_more : (h : E → F) (a : Outcome E U) (f : U → Outcome E V) → among h (a >>= f) ≡ (among h a >>= λ u. among h (f u))
