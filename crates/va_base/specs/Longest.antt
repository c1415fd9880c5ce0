-- The longest front of a text that passes a test.
use Rattle.std.specs.Prelude.{◌≡◌, ◌<◌, ◌≤◌, ℕ, suc, Bool, true, false, List, [], ◌∷◌, length, take, Option, Some, None, if◌then◌else◌}

-- a front of one byte more; where the rest has none, the empty front if it passes
abbrev pub one_more : Bool → Option ℕ → Option ℕ
one_more empty None = if empty then Some 0 else None
one_more empty (Some n) = Some (suc n)

-- the length of the longest front that passes, if one does
unfoldable pub longest : (List ℕ → Bool) → List ℕ → Option ℕ
longest test [] = if test [] then Some 0 else None
longest test (c ∷ rest) = one_more (test []) (longest (λ front. test (c ∷ front)) rest)

-- the front of so many bytes passes, and no longer one does
pub record IsLongest (test : List ℕ → Bool) (text : List ℕ) (n : ℕ) : Type 0 where
  pub within : n ≤ length text
  pub passes : test (take n text) ≡ true
  pub longer : (m : ℕ) → n < m → m ≤ length text → test (take m text) ≡ false

-- no front passes
abbrev pub HasNone : (List ℕ → Bool) → List ℕ → Type 0
HasNone test text = (m : ℕ) → m ≤ length text → test (take m text) ≡ false

-- `longest` finds the longest front wherever a front passes
pub record FindsLongest : Type 0 where
  pub some : (test : List ℕ → Bool) (text : List ℕ) (n : ℕ) → longest test text ≡ Some n → IsLongest test text n
  pub none : (test : List ℕ → Bool) (text : List ℕ) → longest test text ≡ None → HasNone test text
