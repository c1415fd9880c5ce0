-- Parts of a file that have no name of their own in the definition of the whole.
use Rattle.std.specs.Prelude.{◌≡◌, List, [], ◌∷◌, map}
use Rattle.c_tree.specs.declared.file.CArgument.{CArgument}
use Rattle.c_tree.specs.declared.file.CModule.{CModule}
use Rattle.c_tree.specs.FileOf.{entry_row, field_row, module_of, node_row, pair_row, param_row}
use Rattle.c_tree.specs.Raw.{RawArgument, RawDescriptor, RawModule}
use Rattle.c_raw_file.specs.declared.file.ModuleLists.{ModuleLists}

-- an argument of a function
abbrev pub argument_of : RawArgument → CArgument
argument_of argument = record { ty = argument.ty; number = argument.number.value }

-- the tables of a module, and the fields of its structs
pub record HasLists (m : RawModule) (lists : ModuleLists) : Type 0 where
  pub nodes : lists.nodes ≡ map node_row m.nodes
  pub entries : lists.entries ≡ map entry_row m.entries
  pub collapse : lists.collapse ≡ map pair_row m.collapse
  pub params : lists.params ≡ map param_row m.params
  pub model_fields : lists.model_fields ≡ map field_row m.model_fields
  pub inst_fields : lists.inst_fields ≡ map field_row m.inst_fields

-- a module, whose descriptor is the first of these
abbrev pub module_at : List RawDescriptor → RawModule → CModule
module_at [] m = module_of [] 0 m
module_at (d ∷ descriptors) m = module_of d.name d.num_terminals.value m
