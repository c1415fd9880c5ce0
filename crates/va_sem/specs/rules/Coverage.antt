-- How lists of branches grow and shrink as statements are walked over. No public contract names it: it serves proofs inside this crate.
use Rattle.std.specs.Prelude.{◌≡◌, ℕ, ◌&&◌, ◌||◌, Bool, List, Option}
use Rattle.va_sem.specs.rules.Findings.{is_among}

-- the branches that pass a test are added to a list
abbrev pub Adds : (ℕ → Bool) → List ℕ → List ℕ → Type 0
Adds test old new = (branch : ℕ) → is_among new branch ≡ (is_among old branch || test branch)

-- of a list those are kept that pass a test
abbrev pub Keeps : (ℕ → Bool) → List ℕ → List ℕ → Type 0
Keeps test old new = (branch : ℕ) → is_among new branch ≡ (is_among old branch && test branch)
