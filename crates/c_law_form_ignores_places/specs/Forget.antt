-- A raw tree without its places: what a text writes, wherever it stands.
use Rattle.std.specs.Prelude.{ℕ, ◌==◌, if◌then◌else◌, List, [], ◌∷◌, map, Option, Some, None}
use Rattle.c_tree.specs.declared.body.CCell.{CCell}
use Rattle.c_tree.specs.Raw.{At, RawRight, same, negated, contrary, to_real, to_integer, call, binary, RawSimple, constant, join, head, assign, set_cell, set_flag, report, RawBlock, closed, simple, leave, choice, loop, RawField, RawArgument, RawFunction, RawAccess, RawLoad, RawLoads, RawNode, RawPair, RawEntry, RawParam, RawSizes, RawModule, RawDescriptor, RawFile}
use Rattle.c_tree.specs.RawOf.{at_0}

-- what stands at a token, at 0
abbrev pub forget_at : {T : Type 0} → At T → At T
forget_at a = at_0 a.value

abbrev pub forget_right : RawRight → RawRight
forget_right (same a) = same (forget_at a)
forget_right (negated a) = negated (forget_at a)
forget_right (contrary a) = contrary (forget_at a)
forget_right (to_real a) = to_real (forget_at a)
forget_right (to_integer a) = to_integer (forget_at a)
forget_right (call f args) = call f (map forget_at args)
forget_right (binary a op b) = binary (forget_at a) op (forget_at b)

abbrev pub forget_simple : RawSimple → RawSimple
forget_simple (constant ty local side) = constant ty (forget_at local) (at_0 (forget_right side.value))
forget_simple (join ty local) = join ty (forget_at local)
forget_simple (head ty local first) = head ty (forget_at local) (forget_at first)
forget_simple (assign local value) = assign (forget_at local) (forget_at value)
forget_simple (set_cell cell value) = set_cell (forget_at cell) (forget_at value)
forget_simple (set_flag pair value) = set_flag (forget_at pair) (forget_at value)
forget_simple (report id) = report (forget_at id)

abbrev pub forget_block : RawBlock → RawBlock
forget_block (closed at) = closed 0
forget_block (simple s rest) = simple (forget_simple s) (forget_block rest)
forget_block (leave at test rest) = leave 0 (forget_at test) (forget_block rest)
forget_block (choice test first second rest) = choice (forget_at test) (forget_block first) (forget_block second) (forget_block rest)
forget_block (loop inside rest) = loop (forget_block inside) (forget_block rest)

abbrev pub forget_field : RawField → RawField
forget_field field = record { ty = field.ty; field = forget_at field.field }

abbrev pub forget_argument : RawArgument → RawArgument
forget_argument argument = record { ty = argument.ty; number = forget_at argument.number }

abbrev pub forget_function : RawFunction → RawFunction
forget_function f = record {
  number = forget_at f.number;
  result = f.result;
  arguments = map forget_argument f.arguments;
  body = forget_block f.body;
  value = forget_at f.value;
}

abbrev pub forget_flag : Option (At CCell) → Option (At CCell)
forget_flag None = None
forget_flag (Some cell) = Some (forget_at cell)

abbrev pub forget_access : RawAccess → RawAccess
forget_access row =
    record { id = forget_at row.id; instance = row.instance; flag = forget_flag row.flag; cell = forget_at row.cell }

abbrev pub forget_load : RawLoad → RawLoad
forget_load load =
    record { target = forget_at load.target; sign = load.sign; first = forget_at load.first; more = map forget_at load.more }

abbrev pub forget_loads : RawLoads → RawLoads
forget_loads loads = record {
  residual_resist = map forget_load loads.residual_resist;
  residual_react = map forget_load loads.residual_react;
  jacobian_resist = map forget_load loads.jacobian_resist;
  jacobian_react = map forget_load loads.jacobian_react;
  jacobian_tran = map forget_load loads.jacobian_tran;
  spice_rhs_dc = map forget_load loads.spice_rhs_dc;
  spice_rhs_tran = map forget_load loads.spice_rhs_tran;
}

abbrev pub forget_node : RawNode → RawNode
forget_node node = record {
  name = node.name;
  units = node.units;
  residual_units = node.residual_units;
  resist = forget_at node.resist;
  react = forget_at node.react;
  is_flow = node.is_flow;
}

abbrev pub forget_pair : RawPair → RawPair
forget_pair pair = record { first = forget_at pair.first; second = forget_at pair.second }

abbrev pub forget_entry : RawEntry → RawEntry
forget_entry entry = record {
  pair = forget_pair entry.pair;
  react_offset = forget_at entry.react_offset;
  resist = entry.resist;
  react = entry.react;
}

abbrev pub forget_param : RawParam → RawParam
forget_param p = record {
  names = p.names;
  num_alias = forget_at p.num_alias;
  description = p.description;
  units = p.units;
  integer = p.integer;
  kind = forget_at p.kind;
}

abbrev pub forget_sizes : RawSizes → RawSizes
forget_sizes sizes = record {
  node = forget_at sizes.node;
  jr = forget_at sizes.jr;
  jq = forget_at sizes.jq;
  col = forget_at sizes.col;
}

abbrev pub forget_module : RawModule → RawModule
forget_module m = record {
  numbers = map forget_at m.numbers;
  model_fields = map forget_field m.model_fields;
  sizes = forget_sizes m.sizes;
  inst_fields = map forget_field m.inst_fields;
  functions = map forget_function m.functions;
  access = map forget_access m.access;
  setup_model = forget_block m.setup_model;
  setup_instance = forget_block m.setup_instance;
  eval = forget_block m.eval;
  loads = forget_loads m.loads;
  nodes = map forget_node m.nodes;
  entries = map forget_entry m.entries;
  collapse = map forget_pair m.collapse;
  params = map forget_param m.params;
}

abbrev pub forget_descriptor : RawDescriptor → RawDescriptor
forget_descriptor d = record {
  numbers = map forget_at d.numbers;
  name = d.name;
  num_nodes = forget_at d.num_nodes;
  num_terminals = forget_at d.num_terminals;
  num_entries = forget_at d.num_entries;
  num_collapsible = forget_at d.num_collapsible;
  num_params = forget_at d.num_params;
  num_instance_params = forget_at d.num_instance_params;
  num_opvars = forget_at d.num_opvars;
}

abbrev pub forget : RawFile → RawFile
forget raw = record {
  modules = map forget_module raw.modules;
  num_descriptors = forget_at raw.num_descriptors;
  descriptors = map forget_descriptor raw.descriptors;
}

-- The text repeats a module's number in each C name that has one, and the raw tree of a file has it once.

-- of equal numbers beside one another the last
abbrev pub once : List (At ℕ) → List (At ℕ)
once [] = []
once (n ∷ []) = n ∷ []
once (n ∷ m ∷ rest) = if n.value == m.value then once (m ∷ rest) else n ∷ once (m ∷ rest)

abbrev pub once_in_module : RawModule → RawModule
once_in_module m = record m { numbers = once m.numbers }

abbrev pub once_in_descriptor : RawDescriptor → RawDescriptor
once_in_descriptor d = record d { numbers = once d.numbers }

-- a raw tree with the number of each module and descriptor once
abbrev pub numbered_once : RawFile → RawFile
numbered_once raw = record {
  modules = map once_in_module raw.modules;
  num_descriptors = raw.num_descriptors;
  descriptors = map once_in_descriptor raw.descriptors;
}
