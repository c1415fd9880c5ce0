-- Tables by name.
use Rattle.std.specs.Prelude.{ℕ, List, Option}
use Rattle.std.specs.Str.{bytes_eq}
use Rattle.indexmap.specs.IndexMap.{IndexMap, get_by}
use denote.Bor.{Bor}

-- what a table has under a name
abbrev pub by_name : {X S : Type 0} → IndexMap (Bor (List ℕ)) X S → List ℕ → Option X
by_name table name = get_by (λ key. bytes_eq name key.now) table
