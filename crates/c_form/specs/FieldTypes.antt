-- The types of fields by their names, as the program keeps them.
use Rattle.std.specs.Prelude.{◌≡◌, ℕ, Bool, false, List, Option, Some, None}
use Rattle.std.specs.Global.{Vec}
use Rattle.std.specs.Str.{bytes_eq}
use Rattle.indexmap.specs.IndexMap.{IndexMap, get_by}
use Rattle.alg_laws.specs.declared.number.Ty.{Ty}
use Rattle.c_tree.specs.declared.body.CField.{CField}
use Rattle.c_tree.specs.SameType.{same_type}
use Rattle.c_tree.specs.Raw.{RawField, RawModule}
use Rattle.c_tree.specs.Text.{field_word}
use Rattle.c_tree.specs.rules.Fields.{type_among}
use Rattle.c_form.specs.Blames.{Blames}
use Rattle.c_form.specs.declared.cell_types.CellTypes.{CellTypes}

-- the type of a name
abbrev pub named : {S : Type 0} → IndexMap (Vec ℕ) Ty S → List ℕ → Option Ty
named table name = get_by (λ key. bytes_eq name key.items) table

-- a table has the types of some fields
abbrev pub HasFields : {S : Type 0} → IndexMap (Vec ℕ) Ty S → List RawField → Type 0
HasFields table fields = (field : CField) → named table (field_word field) ≡ type_among field fields

-- two tables have the types of a module's two structs
pub record HasTypes (types : CellTypes) (m : RawModule) : Type 0 where
  pub model : HasFields types.model m.model_fields
  pub instance : HasFields types.instance m.inst_fields

-- the tokens that are blamed by these types, told by the module
abbrev pub BlamesByTypes : CellTypes → Option ℕ → Option ℕ → (RawModule → List ℕ) → Type 0
BlamesByTypes types old new tokens = (m : RawModule) → HasTypes types m → Blames old new (tokens m)

-- a type that is there and is the one that is wanted
abbrev pub has_type : Ty → Option Ty → Bool
has_type wanted None = false
has_type wanted (Some ty) = same_type ty wanted
