-- What the parts of tables are that this crate's own functions hand on. No public contract names them.
use Rattle.std.specs.Prelude.{ℕ, Bool, List, ◌∷◌, map}
use Rattle.c_tree.specs.Raw as raw
use Rattle.c_raw.specs.Views.{node_view, entry_view, pair_view, param_view}
use Rattle.c_raw_build.specs.declared.tables.Tables.{Tables}
use Rattle.c_raw_build.specs.declared.tables.EntryParts.{EntryParts as Declared}
use Rattle.c_raw_build.specs.Placed.{Placed, is_of, part}
use Rattle.c_raw_build.specs.RowNumbers.{and_react_row}
use Rattle.c_raw_build.specs.RawTables.{has_resist, has_react, more_strings, node_rows, entry_rows, pair_rows, param_rows}
use Rattle.c_raw_build.specs.Words.{CText, string_at}

-- AndReact
abbrev pub has_and_react : Placed → Bool
has_and_react p = is_of and_react_row p

-- which parts an entry has
pub record EntryParts : Type 0 where
  pub resist : Bool
  pub react : Bool

abbrev pub parts_view : Declared → EntryParts
parts_view parts = record { resist = parts.resist; react = parts.react }

abbrev pub entry_parts : Placed → EntryParts
entry_parts p = record { resist = has_resist p; react = has_react p }

-- the name at this token, and those behind it
abbrev pub names_from : CText → ℕ → Placed → List (List ℕ)
names_from text first p = string_at text first ∷ more_strings text p

-- the four tables of a module
pub record FourTables : Type 0 where
  pub nodes : List raw.RawNode
  pub entries : List raw.RawEntry
  pub collapse : List raw.RawPair
  pub params : List raw.RawParam

abbrev pub tables_view : Tables → FourTables
tables_view t = record { nodes = map node_view t.nodes.items; entries = map entry_view t.entries.items; collapse = map pair_view t.collapse.items; params = map param_view t.params.items }

-- Tables
unfoldable pub tables_of : CText → Placed → FourTables
tables_of text p = record { nodes = node_rows text (part 0 p); entries = entry_rows text (part 1 p); collapse = pair_rows text (part 2 p); params = param_rows text (part 3 p) }
