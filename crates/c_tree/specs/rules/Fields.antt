-- Each field that is named exists in its struct with the type that is needed there, and no struct has two fields of one name.
use Rattle.std.specs.Prelude.{ℕ, Bool, if◌then◌else◌, List, [], ◌∷◌, ◌++◌, Option, Some, None}
use Rattle.std.specs.List.{flat_map}
use Rattle.std.specs.Str.{bytes_eq}
use Rattle.alg_laws.specs.declared.number.Ty.{Ty}
use Rattle.alg_laws.specs.declared.number.Ty.TheVariants.{Integer, Real}
use Rattle.c_tree.specs.declared.body.CCell.{CCell}
use Rattle.c_tree.specs.declared.body.CField.{CField}
use Rattle.c_tree.specs.declared.body.CField.TheVariants.{Temperature}
use Rattle.c_tree.specs.declared.body.Level.{Level}
use Rattle.c_tree.specs.declared.body.Level.TheVariants.{Instance, Model}
use Rattle.c_tree.specs.declared.load.LoadFactor.{LoadFactor}
use Rattle.c_tree.specs.declared.load.LoadFactor.TheVariants as factor
use Rattle.c_tree.specs.SameType.{same_type}
use Rattle.c_tree.specs.Raw.{At, word_at, RawField, RawAccess, RawLoad, RawLoads, RawNode, RawModule, RawFile}
use Rattle.c_tree.specs.Text.{field_word}
use Rattle.c_tree.specs.rules.Bodies.{RawBody, Scoped, items_of, bodies_of, atoms_of, cell_of, set_cells, of_statement, in_modules}

abbrev pub same_field : CField → CField → Bool
same_field a b = bytes_eq (field_word a) (field_word b)

-- the type of a field among some
abbrev pub type_among : CField → List RawField → Option Ty
type_among field [] = None
type_among field (f ∷ rest) = if same_field f.field.value field then Some f.ty else type_among field rest

-- each instance has its temperature
abbrev pub instance_type : RawModule → CField → Option Ty
instance_type m Temperature = Some Real
instance_type m field = type_among field m.inst_fields

-- the type of a cell, where it is there
abbrev pub cell_type : RawModule → CCell → Option Ty
cell_type m cell = by_level cell.level
  where
    by_level : Level → Option Ty
    by_level Model = type_among cell.field m.model_fields
    by_level Instance = instance_type m cell.field

-- a token that is blamed where what stands there isn't there
abbrev pub missing : Option Ty → ℕ → List ℕ
missing None at = at ∷ []
missing (Some ty) at = []

-- a token that is blamed where what stands there isn't there, or has another type
abbrev pub unlike : Ty → Option Ty → ℕ → List ℕ
unlike wanted None at = at ∷ []
unlike wanted (Some ty) at = if same_type ty wanted then [] else at ∷ []

-- the fields of a struct that have the name of an earlier one
abbrev pub again : CField → List RawField → List ℕ
again field [] = []
again field (f ∷ rest) = if same_field f.field.value field then f.field.at ∷ again field rest else again field rest

abbrev pub twice : List RawField → List ℕ
twice [] = []
twice (f ∷ rest) = again f.field.value rest ++ twice rest

-- the cells that a body reads or sets
abbrev pub cells_in : Scoped → List (At CCell)
cells_in s = flat_map cell_of (atoms_of s.item) ++ of_statement set_cells s.item

abbrev pub body_cells : RawBody → List (At CCell)
body_cells b = flat_map cells_in (items_of b)

abbrev pub cell_missing : RawModule → At CCell → List ℕ
cell_missing m cell = missing (cell_type m cell.value) (word_at cell)

-- the flag of an access row is an integer
abbrev pub access_flag : RawModule → Option (At CCell) → List ℕ
access_flag m None = []
access_flag m (Some cell) = unlike Integer (cell_type m cell.value) (word_at cell)

abbrev pub access_cells : RawModule → RawAccess → List ℕ
access_cells m row = access_flag m row.flag ++ cell_missing m row.cell

-- the factors of a load
abbrev pub factors_of : RawLoad → List (At LoadFactor)
factors_of load = load.first ∷ load.more

abbrev pub all_loads : RawLoads → List RawLoad
all_loads loads =
    loads.residual_resist ++ loads.residual_react ++ loads.jacobian_resist ++ loads.jacobian_react ++ loads.jacobian_tran
    ++ loads.spice_rhs_dc ++ loads.spice_rhs_tran

-- a cell of the instance that a load reads
abbrev pub loaded_field : At LoadFactor → List (At CField)
loaded_field f = among f.value
  where
    among : LoadFactor → List (At CField)
    among (factor.Cell field) = record { at = f.at; value = field } ∷ []
    among _ = []

abbrev pub load_cells : RawModule → RawLoad → List ℕ
load_cells m load =
    flat_map (λ field. missing (instance_type m (At.value field)) (word_at field)) (flat_map loaded_field (factors_of load))

-- the two cells of a node are doubles
abbrev pub node_cells : RawModule → RawNode → List ℕ
node_cells m node =
    unlike Real (instance_type m node.resist.value) node.resist.at ++ unlike Real (instance_type m node.react.value) node.react.at

abbrev pub fields_of_module : ℕ → RawModule → List ℕ
fields_of_module k m =
    twice m.model_fields ++ twice m.inst_fields ++ flat_map (cell_missing m) (flat_map body_cells (bodies_of m))
    ++ flat_map (access_cells m) m.access ++ flat_map (load_cells m) (all_loads m.loads) ++ flat_map (node_cells m) m.nodes

abbrev pub fields_exist : RawFile → List ℕ
fields_exist = in_modules fields_of_module
