-- Tables by name.
use Rattle.std.specs.Prelude.{ℕ, ◌+◌, List, [], ◌∷◌, map, slice_get, Option, Some, None, option_map, option_and_then, if◌then◌else◌}
use Rattle.std.specs.Str.{bytes_eq}

-- a name's bytes
abbrev pub Bytes : Type 0
Bytes = List ℕ

-- the place of a name among words of which the first stands at a place; of two such words the first counts
abbrev pub place_from : ℕ → List Bytes → Bytes → Option ℕ
place_from place [] name = None
place_from place (word ∷ rest) name = if bytes_eq word name then Some place else place_from (place + 1) rest name

-- from 0 on
abbrev pub place_of : List Bytes → Bytes → Option ℕ
place_of = place_from 0

-- the words of a table, and what stands beside them
abbrev pub words_of : {T : Type 0} → List (Bytes × T) → List Bytes
words_of = map (λ entry. entry.0)

abbrev pub entry_at : {T : Type 0} → List (Bytes × T) → ℕ → Option T
entry_at entries place = option_map (λ entry. entry.1) (slice_get entries place)

-- what stands beside a name
abbrev pub found : {T : Type 0} → List (Bytes × T) → Bytes → Option T
found entries name = option_and_then (entry_at entries) (place_of (words_of entries) name)
