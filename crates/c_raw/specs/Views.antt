-- The raw tree that a value of this crate's types is.
use Rattle.std.specs.Prelude.{Bool, ◌&&◌, List, map, Option, Some, None}
use Rattle.std.specs.List.{list_all}
use Rattle.c_tree.specs.declared.body.CCell.{CCell}
use Rattle.c_tree.specs.declared.load.LoadFunction.{LoadFunction}
use Rattle.c_tree.specs.declared.load.LoadFunction.TheVariants.{ResidualResist, ResidualReact, JacobianResist, JacobianReact, JacobianTran, SpiceRhsDc, SpiceRhsTran}
use Rattle.c_tree.specs.Raw as raw
use Rattle.c_raw.specs.declared.file.RawAccess.{RawAccess}
use Rattle.c_raw.specs.declared.file.RawArgument.{RawArgument}
use Rattle.c_raw.specs.declared.file.RawDescriptor.{RawDescriptor}
use Rattle.c_raw.specs.declared.file.RawField.{RawField}
use Rattle.c_raw.specs.declared.file.RawFile.{RawFile}
use Rattle.c_raw.specs.declared.file.RawFunction.{RawFunction}
use Rattle.c_raw.specs.declared.file.RawModule.{RawModule}
use Rattle.c_raw.specs.declared.file.RawSizes.{RawSizes}
use Rattle.c_raw.specs.declared.load.RawLoad.{RawLoad}
use Rattle.c_raw.specs.declared.load.RawLoads.{RawLoads}
use Rattle.c_raw.specs.declared.table.RawEntry.{RawEntry}
use Rattle.c_raw.specs.declared.table.RawNode.{RawNode}
use Rattle.c_raw.specs.declared.table.RawPair.{RawPair}
use Rattle.c_raw.specs.declared.table.RawParam.{RawParam}
use Rattle.c_raw.specs.declared.token.At.{At}
use Rattle.c_raw.specs.Blocks.{at_view, block_view, is_body}

abbrev pub field_view : RawField → raw.RawField
field_view field = record { ty = field.ty; field = at_view field.field }

abbrev pub sizes_view : RawSizes → raw.RawSizes
sizes_view sizes =
    record { node = at_view sizes.node; jr = at_view sizes.jr; jq = at_view sizes.jq; col = at_view sizes.col }

abbrev pub argument_view : RawArgument → raw.RawArgument
argument_view argument = record { ty = argument.ty; number = at_view argument.number }

abbrev pub function_view : RawFunction → raw.RawFunction
function_view f = record {
  number = at_view f.number;
  result = f.result;
  arguments = map argument_view f.arguments;
  body = block_view f.body;
  value = at_view f.value;
}

abbrev pub flag_view : Option (At CCell) → Option (raw.At CCell)
flag_view None = None
flag_view (Some cell) = Some (at_view cell)

abbrev pub access_view : RawAccess → raw.RawAccess
access_view row =
    record { id = at_view row.id; instance = row.instance; flag = flag_view row.flag; cell = at_view row.cell }

abbrev pub load_view : RawLoad → raw.RawLoad
load_view load = record {
  target = at_view load.target;
  sign = load.sign;
  first = at_view load.first;
  more = map at_view load.more;
}

abbrev pub loads_view : RawLoads → raw.RawLoads
loads_view loads = record {
  residual_resist = map load_view loads.residual_resist;
  residual_react = map load_view loads.residual_react;
  jacobian_resist = map load_view loads.jacobian_resist;
  jacobian_react = map load_view loads.jacobian_react;
  jacobian_tran = map load_view loads.jacobian_tran;
  spice_rhs_dc = map load_view loads.spice_rhs_dc;
  spice_rhs_tran = map load_view loads.spice_rhs_tran;
}

-- the statements of one load function
abbrev pub loads_in : RawLoads → LoadFunction → List RawLoad
loads_in loads ResidualResist = loads.residual_resist
loads_in loads ResidualReact = loads.residual_react
loads_in loads JacobianResist = loads.jacobian_resist
loads_in loads JacobianReact = loads.jacobian_react
loads_in loads JacobianTran = loads.jacobian_tran
loads_in loads SpiceRhsDc = loads.spice_rhs_dc
loads_in loads SpiceRhsTran = loads.spice_rhs_tran

abbrev pub node_view : RawNode → raw.RawNode
node_view node = record {
  name = node.name;
  units = node.units;
  residual_units = node.residual_units;
  resist = at_view node.resist;
  react = at_view node.react;
  is_flow = node.is_flow;
}

abbrev pub pair_view : RawPair → raw.RawPair
pair_view pair = record { first = at_view pair.first; second = at_view pair.second }

abbrev pub entry_view : RawEntry → raw.RawEntry
entry_view entry = record {
  pair = pair_view entry.pair;
  react_offset = at_view entry.react_offset;
  resist = entry.resist;
  react = entry.react;
}

abbrev pub param_view : RawParam → raw.RawParam
param_view p = record {
  names = p.names;
  num_alias = at_view p.num_alias;
  description = p.description;
  units = p.units;
  integer = p.integer;
  kind = at_view p.kind;
}

abbrev pub module_view : RawModule → raw.RawModule
module_view m = record {
  numbers = map at_view m.numbers;
  model_fields = map field_view m.model_fields;
  sizes = sizes_view m.sizes;
  inst_fields = map field_view m.inst_fields;
  functions = map function_view m.functions;
  access = map access_view m.access;
  setup_model = block_view m.setup_model;
  setup_instance = block_view m.setup_instance;
  eval = block_view m.eval;
  loads = loads_view m.loads;
  nodes = map node_view m.nodes;
  entries = map entry_view m.entries;
  collapse = map pair_view m.collapse;
  params = map param_view m.params;
}

abbrev pub descriptor_view : RawDescriptor → raw.RawDescriptor
descriptor_view d = record {
  numbers = map at_view d.numbers;
  name = d.name;
  num_nodes = at_view d.num_nodes;
  num_terminals = at_view d.num_terminals;
  num_entries = at_view d.num_entries;
  num_collapsible = at_view d.num_collapsible;
  num_params = at_view d.num_params;
  num_instance_params = at_view d.num_instance_params;
  num_opvars = at_view d.num_opvars;
}

abbrev pub file_view : RawFile → raw.RawFile
file_view f = record {
  modules = map module_view f.modules;
  num_descriptors = at_view f.num_descriptors;
  descriptors = map descriptor_view f.descriptors;
}

-- each body of a module is one block
abbrev pub module_has_bodies : RawModule → Bool
module_has_bodies m =
    list_all (λ f. is_body (RawFunction.body f)) m.functions && is_body m.setup_model && is_body m.setup_instance && is_body m.eval

-- each body of a file is one block
abbrev pub has_bodies : RawFile → Bool
has_bodies f = list_all module_has_bodies f.modules
