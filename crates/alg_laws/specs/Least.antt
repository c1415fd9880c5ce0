-- Least sets of the numbers below n that are closed under rules, as "biased" and "depends on" are: a set grows from the empty
-- one by the rules, turned as often as there are numbers.
use Rattle.std.specs.Prelude.{◌≡◌, ℕ, zero, suc, ◌<◌, Bool, true, false, List, [], ◌∷◌, get_or}

-- the answers of f for the numbers below n, in order
abbrev pub table : ℕ → (ℕ → Bool) → List Bool
table zero f = []
table (suc n) f = f 0 ∷ table n (λ x. f (suc x))

-- whether a number is in the set that a table lists
abbrev pub listed : List Bool → ℕ → Bool
listed answers x = get_or answers x false

-- A step answers whether a number follows from a set by one of the rules. This is the set after k steps from the empty one.
abbrev pub after_steps : ℕ → ((ℕ → Bool) → ℕ → Bool) → ℕ → List Bool
after_steps n step zero = []
after_steps n step (suc k) = table n (step (listed (after_steps n step k)))

-- The least set of numbers below n that has each number that follows from it.
abbrev pub least : ℕ → ((ℕ → Bool) → ℕ → Bool) → ℕ → Bool
least n step = listed (after_steps n step n)

-- The second set has, of the numbers below n, all that the first has.
abbrev pub Within : ℕ → (ℕ → Bool) → (ℕ → Bool) → Type 0
Within n a b = (x : ℕ) → x < n → a x ≡ true → b x ≡ true

-- From more follows more.
abbrev pub IsMonotone : ℕ → ((ℕ → Bool) → ℕ → Bool) → Type 0
IsMonotone n step = (a b : ℕ → Bool) → Within n a b → Within n (step a) (step b)

-- The least set has what follows from it, and every set that has what follows from it has the least one.
pub record LeastSets : Type 0 where
  pub closed : (n : ℕ) (step : (ℕ → Bool) → ℕ → Bool) → IsMonotone n step → Within n (step (least n step)) (least n step)
  pub within_closed : (n : ℕ) (step : (ℕ → Bool) → ℕ → Bool) → IsMonotone n step
      → (set : ℕ → Bool) → Within n (step set) set → Within n (least n step) set
