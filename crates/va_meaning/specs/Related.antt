-- Evaluations whose values are related: over two algebras, with any relation that the operations keep, and with any relation of their
-- early ends.
use Rattle.std.specs.Prelude.{◌≡◌, ℕ, ◌≤◌, ◌⊎◌, List}
use Rattle.alg_laws.specs.declared.number.Reason.{Reason}
use Rattle.alg_laws.specs.declared.number.Reason.TheVariants.{Turns}
use Rattle.alg_laws.specs.Outcome.{Outcome, gives, ends}
use Rattle.alg_laws.specs.Related.{Relates, NumbersRelated, ListsRelated}
use Rattle.va_meaning.specs.Points.{Point, Context, Result, Answers, Store, Held, State}

-- How two computations end early: which of their ends go together, and which stand alone, where the other computation gives a value.
pub record Endings (E F : Type 0) : Type 1 where
  pub together : E → F → Type 0
  pub first_alone : E → Type 0
  pub second_alone : F → Type 0

-- An end that stands alone goes together with every other.
pub record IsClosed {E F : Type 0} (g : Endings E F) : Type 0 where
  pub first : (e : E) (f : F) → g.first_alone e → g.together e f
  pub second : (e : E) (f : F) → g.second_alone f → g.together e f

-- Both end, and alike.
abbrev pub same_ends : {E : Type 0} → Endings E E
same_ends = record { together = λ e f. e ≡ f; first_alone = λ e. ⊥; second_alone = λ f. ⊥ }

-- Nothing is known of ends: what is said is said where both give a value.
abbrev pub any_ends : {E F : Type 0} → Endings E F
any_ends = record { together = λ e f. Unit {0}; first_alone = λ e. Unit {0}; second_alone = λ f. Unit {0} }

-- The second has more turns: the first may end for want of one, and else both end alike.
abbrev pub more_turns : {E : Type 0} → E → Endings E E
more_turns too_many = record { together = λ e f. (e ≡ too_many) ⊎ (e ≡ f); first_alone = λ e. e ≡ too_many; second_alone = λ f. ⊥ }

-- Both give related values, or end early as they may.
pub data Alike {E F A B : Type 0} (g : Endings E F) (P : A → B → Type 0) : Outcome E A → Outcome F B → Type 0 where
  both_give : {x : A} {y : B} → P x y → Alike g P (gives x) (gives y)
  both_end : {e : E} {f : F} → g.together e f → Alike g P (ends e) (ends f)
  first_ends : {e : E} {y : B} → g.first_alone e → Alike g P (ends e) (gives y)
  second_ends : {x : A} {f : F} → g.second_alone f → Alike g P (gives x) (ends f)

-- what two expressions give
abbrev pub ResultsRelated : {E F V W : Type 0} → Endings E F → (V → W → Type 0) → Result E V → Result F W → Type 0
ResultsRelated g R = Alike g (NumbersRelated R)

-- Numbered calls whose arguments are related have related answers.
abbrev pub AnswersRelated : {E F V W : Type 0} → Endings E F → (V → W → Type 0) → Answers E V → Answers F W → Type 0
AnswersRelated {E} {F} {V} {W} g R a b =
    (number : ℕ) (outs : List (Result E V)) (outs' : List (Result F W)) → ListsRelated (ResultsRelated g R) outs outs' → Alike g R (a number outs) (b number outs')

-- The same bound on turns, or a greater one for the second, where the first may end for want of a turn.
abbrev pub BoundsRelated : {E F : Type 0} → Endings E F → E → ℕ → ℕ → Type 0
BoundsRelated g too_many n m = (n ≡ m) ⊎ ((n ≤ m) × g.first_alone too_many)

-- points at which parameters have values of one type, all reals are related, and the same parameters were given
pub record PointsRelated {V W : Type 0} (R : V → W → Type 0) (P : Point V) (Q : Point W) : Type 0 where
  pub parameters : (p : ℕ) → NumbersRelated R (P.parameters p) (Q.parameters p)
  pub given : (p : ℕ) → P.given p ≡ Q.given p
  pub temperature : R P.temperature Q.temperature
  pub unknowns : (i : ℕ) → R (P.unknowns i) (Q.unknowns i)

-- evaluations over related algebras at related points
pub record ContextsRelated {E F V W : Type 0} (g : Endings E F) (R : V → W → Type 0) (c : Context E V) (d : Context F W) : Type 0 where
  pub ops : Relates c.ops d.ops R
  pub derivative : R c.derivative d.derivative
  pub point : PointsRelated R c.point d.point
  pub bound : BoundsRelated g (c.stops Turns) c.bound d.bound
  pub stops : (reason : Reason) → g.together (c.stops reason) (d.stops reason)
  pub answers : AnswersRelated g R c.answers d.answers

-- stores with related values
abbrev pub StoresRelated : {V W : Type 0} → (V → W → Type 0) → Store V → Store W → Type 0
StoresRelated R s t = (x : ℕ) → NumbersRelated R (s x) (t x)

-- the same quantity, and related sums
pub record HeldRelated {V W : Type 0} (R : V → W → Type 0) (h : Held V) (k : Held W) : Type 0 where
  pub quantity : h.quantity ≡ k.quantity
  pub sum : R h.sum k.sum

-- states with related variables and sums, and with the same marks
pub record StatesRelated {V W : Type 0} (R : V → W → Type 0) (s : State V) (t : State W) : Type 0 where
  pub variables : StoresRelated R s.variables t.variables
  pub held : (b : ℕ) → HeldRelated R (s.held b) (t.held b)
  pub marks : (b : ℕ) → s.marks b ≡ t.marks b
