-- What uses of cells are blamed, part by part.
use Rattle.std.specs.Prelude.{ℕ, List}
use Rattle.std.specs.List.{flat_map}
use Rattle.c_tree.specs.declared.body.CAtom.{CAtom}
use Rattle.c_tree.specs.declared.load.LoadFactor.{LoadFactor}
use Rattle.c_tree.specs.Raw.{At, word_at, RawModule}
use Rattle.c_tree.specs.rules.Bodies.{Item, cell_of}
use Rattle.c_tree.specs.rules.Fields.{cell_missing, cells_in, instance_type, loaded_field, missing}
use Rattle.c_form.specs.Parts.{alone}

-- an atom that is a cell which isn't there
abbrev pub atom_missing : RawModule → At CAtom → List ℕ
atom_missing m a = flat_map (cell_missing m) (cell_of a)

-- the cells of an item that aren't there
abbrev pub item_missing : RawModule → Item → List ℕ
item_missing m item = flat_map (cell_missing m) (cells_in (alone item))

-- a factor that is a cell which isn't there
abbrev pub factor_missing : RawModule → At LoadFactor → List ℕ
factor_missing m f = flat_map (λ field. missing (instance_type m (At.value field)) (word_at field)) (loaded_field f)
