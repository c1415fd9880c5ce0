-- The turns of a loop that may make at most n of them (Looping statements).
use Rattle.std.specs.Prelude.{◌≡◌, ℕ, zero, suc, ◌≤◌, ◌<◌, ◌⊎◌, ◌↔◌, Bool, true, false, if◌then◌else◌}
use Rattle.alg_laws.specs.Outcome.{Outcome, gives, ends, ◌>>=◌}

-- From the state S at the head a loop goes on to its test, where the state is a T; where the test holds, the turn is made, and
-- it is at its head again. It ends in the state at the test that fails, or early at `too_many`, where it needs a turn more than
-- n.
abbrev pub turns : {E S T : Type 0} → E → (S → Outcome E T) → (T → Bool) → (T → Outcome E S) → ℕ → S → Outcome E T
turns too_many before goes turn zero s = do
  t ← before s
  if goes t then ends too_many else gives t
turns too_many before goes turn (suc n) s = do
  t ← before s
  if goes t then (turn t >>= turns too_many before goes turn n) else gives t

-- a state, and what a test of it gave
pub record Tested (S : Type 0) : Type 0 where
  pub goes : Bool
  pub state : S

abbrev pub tested : {E S : Type 0} → (S → Outcome E Bool) → S → Outcome E (Tested S)
tested test s = do
  goes ← test s
  gives (record { goes = goes; state = s })

-- `while`, with a test that leaves the state as it is.
abbrev pub while_turns : {E S : Type 0} → E → (S → Outcome E Bool) → (S → Outcome E S) → ℕ → S → Outcome E S
while_turns too_many test turn n s = do
  last ← turns too_many (tested test) (λ at. at.goes) (λ at. turn at.state) n s
  gives last.state

module _ {E S T : Type 0} (before : S → Outcome E T) (goes : T → Bool) (turn : T → Outcome E S) where
  -- k turns are made, the test holding before each, and lead from s to r
  abbrev pub MakesTurns : ℕ → S → S → Type 0
  MakesTurns zero s r = s ≡ r
  MakesTurns (suc k) s r =
      (t : T) × (before s ≡ gives t) × (goes t ≡ true) × (next : S) × (turn t ≡ gives next) × MakesTurns k next r

  -- after k turns the test fails, in the state t
  pub record EndsAfter (k : ℕ) (s : S) (t : T) : Type 0 where
    pub head : S
    pub made : MakesTurns k s head
    pub reached : before head ≡ gives t
    pub fails : goes t ≡ false

  -- after k turns the test still holds
  pub record GoesOnAfter (k : ℕ) (s : S) : Type 0 where
    pub head : S
    pub made : MakesTurns k s head
    pub state : T
    pub reached : before head ≡ gives state
    pub holds : goes state ≡ true

  -- after k turns what stands before the test ends early
  pub record TestEndsAfter (k : ℕ) (s : S) (e : E) : Type 0 where
    pub head : S
    pub made : MakesTurns k s head
    pub ended : before head ≡ ends e

  -- after k turns the next one ends early
  pub record TurnEndsAfter (k : ℕ) (s : S) (e : E) : Type 0 where
    pub head : S
    pub made : MakesTurns k s head
    pub state : T
    pub reached : before head ≡ gives state
    pub holds : goes state ≡ true
    pub ended : turn state ≡ ends e

-- A loop that may make n turns ends in t exactly where the test fails after k of at most n turns, in the state t. It ends early
-- exactly where it has made n turns and the test still holds, or at the first test or turn that ends early.
pub record TurnsOfLoop (E S T : Type 0) : Type 0 where
  pub ends_in : (too_many : E) (before : S → Outcome E T) (goes : T → Bool) (turn : T → Outcome E S) (n : ℕ) (s : S) (t : T)
      → (turns too_many before goes turn n s ≡ gives t) ↔ ((k : ℕ) × (k ≤ n) × EndsAfter before goes turn k s t)
  pub ends_early : (too_many : E) (before : S → Outcome E T) (goes : T → Bool) (turn : T → Outcome E S) (n : ℕ) (s : S) (e : E)
      → (turns too_many before goes turn n s ≡ ends e)
      ↔ (((e ≡ too_many) × GoesOnAfter before goes turn n s)
      ⊎ (((k : ℕ) × (k ≤ n) × TestEndsAfter before goes turn k s e)
      ⊎ ((k : ℕ) × (k < n) × TurnEndsAfter before goes turn k s e)))
