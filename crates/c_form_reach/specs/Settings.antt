-- What statements set, and which cells were set before.
use Rattle.std.specs.Prelude.{ℕ, Bool, List, [], ◌∷◌, ◌++◌, Option, Some, None}
use Rattle.std.specs.Global.{Vec}
use Rattle.std.specs.Str.{bytes_eq}
use Rattle.indexmap.specs.IndexSet.{IndexSet, contains_by}
use Rattle.c_tree.specs.declared.body.CCell.{CCell}
use Rattle.c_tree.specs.declared.body.Level.{Level}
use Rattle.c_tree.specs.declared.body.Level.TheVariants.{Instance, Model}
use Rattle.c_tree.specs.Raw.{At, RawSimple}
use Rattle.c_tree.specs.Text.{field_word}
use Rattle.c_tree.specs.rules.Bodies.{set_cells, set_flags}
use Rattle.c_tree.specs.rules.Reach.{words_of_cells, words_of_flags}
use Rattle.c_raw.specs.Blocks.{at_view}
use Rattle.c_raw.specs.declared.token.At.{At as TokenAt}
use Rattle.c_form_reach.specs.declared.set_cells.SetCells.{SetCells}

-- the words of the cell and of the flag that a statement sets
abbrev pub words_set : RawSimple → List ℕ
words_set s = words_of_cells (set_cells s) ++ words_of_flags (set_flags s)

-- what may be there, as a list
abbrev pub listed : {T : Type 0} → Option (TokenAt T) → List (At T)
listed None = []
listed (Some x) = at_view x ∷ []

-- a name is among some
abbrev pub has_name : {S : Type 0} → IndexSet (Vec ℕ) S → List ℕ → Bool
has_name names name = contains_by (λ key. bytes_eq name key.items) names

-- a cell was set before
abbrev pub was_set : SetCells → CCell → Bool
was_set seen cell = by_level cell.level
  where
    by_level : Level → Bool
    by_level Instance = has_name seen.instance (field_word cell.field)
    by_level Model = has_name seen.model (field_word cell.field)
