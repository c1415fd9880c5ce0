-- Walks over a flat list of statements with a list of open blocks, each as a definition by cases on the next statement.
use Rattle.std.specs.Prelude.{ℕ, ◌+◌, not, Bool, true, false, if◌then◌else◌, List, [], ◌∷◌, ◌++◌}
use Rattle.c_raw.specs.declared.body.RawStatement.{RawStatement}
use Rattle.c_raw.specs.declared.body.RawStatement.TheVariants.{Simple, Leave, If, For, End}

-- a list of open blocks, the innermost first; the program keeps it with the innermost last
abbrev pub innermost_first : {T : Type 0} → List T → List T
innermost_first [] = []
innermost_first (x ∷ xs) = innermost_first xs ++ x ∷ []

-- which statements break the rule of `break`, where each open block tells whether one is still wanted in it
abbrev pub breaks_flat : List Bool → List RawStatement → List ℕ
breaks_flat [] body = []
breaks_flat (wanted ∷ outer) [] = []
breaks_flat (wanted ∷ outer) (Simple s ∷ rest) = breaks_flat (wanted ∷ outer) rest
breaks_flat (wanted ∷ outer) (Leave at test ∷ rest) = (if wanted then [] else at ∷ []) ++ breaks_flat (false ∷ outer) rest
breaks_flat (wanted ∷ outer) (If test ∷ rest) = breaks_flat (false ∷ false ∷ wanted ∷ outer) rest
breaks_flat (wanted ∷ outer) (For ∷ rest) = breaks_flat (true ∷ wanted ∷ outer) rest
breaks_flat (wanted ∷ outer) (End at ∷ rest) = (if not wanted then [] else at ∷ []) ++ breaks_flat outer rest

-- how many blocks are open behind a statement, where so many are open around the innermost one
abbrev pub open_behind : ℕ → RawStatement → ℕ
open_behind around (Simple s) = around + 1
open_behind around (Leave at test) = around + 1
open_behind around (If test) = around + 3
open_behind around For = around + 2
open_behind around (End at) = around
