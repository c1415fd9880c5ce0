-- The raw tree of a file: it writes the numbers that the rules of form ask for. All its tokens stand at 0, so it tells whether a
-- rule is broken, and not where.
use Rattle.std.specs.Prelude.{ℕ, if◌then◌else◌, List, [], ◌∷◌, length, map, drop, Option, Some, None, codes}
use Rattle.std.specs.List.{enumerate_from}
use Rattle.va_base.specs.Numerals.{number_of}
use Rattle.c_tree.specs.declared.body.CCell.{CCell}
use Rattle.c_tree.specs.declared.body.CField.{CField}
use Rattle.c_tree.specs.declared.body.CField.TheVariants.{Param, Given, Resist, React, EntryResist, EntryReact, OpVar, Stored, Temperature}
use Rattle.c_tree.specs.declared.body.CRight.{CRight}
use Rattle.c_tree.specs.declared.body.CRight.TheVariants as right
use Rattle.c_tree.specs.declared.body.CSimple.{CSimple}
use Rattle.c_tree.specs.declared.body.CSimple.TheVariants.{Constant, Join, Head, Assign, SetCell, SetCollapse, Report}
use Rattle.c_tree.specs.declared.body.CStatement.{CStatement}
use Rattle.c_tree.specs.declared.file.AccessRow.{AccessRow}
use Rattle.c_tree.specs.declared.file.CArgument.{CArgument}
use Rattle.c_tree.specs.declared.file.CFile.{CFile}
use Rattle.c_tree.specs.declared.file.CFunction.{CFunction}
use Rattle.c_tree.specs.declared.file.CModule.{CModule}
use Rattle.c_tree.specs.declared.load.CLoad.{CLoad}
use Rattle.c_tree.specs.declared.load.CLoads.{CLoads}
use Rattle.c_tree.specs.declared.table.EntryRow.{EntryRow}
use Rattle.c_tree.specs.declared.table.FieldRow.{FieldRow}
use Rattle.c_tree.specs.declared.table.NodeRow.{NodeRow}
use Rattle.c_tree.specs.declared.table.PairRow.{PairRow}
use Rattle.c_tree.specs.declared.table.ParamRow.{ParamRow}
use Rattle.c_tree.specs.Blocks as blocks
use Rattle.c_tree.specs.Blocks.{Block, block_of}
use Rattle.c_tree.specs.Raw.{At, RawRight, same, negated, contrary, to_real, to_integer, call, binary, RawSimple, constant, join, head, assign, set_cell, set_flag, report, RawBlock, closed, simple, leave, choice, loop, RawField, RawFunction, RawAccess, RawLoad, RawLoads, RawNode, RawPair, RawEntry, RawParam, RawModule, RawDescriptor, RawFile}
use Rattle.c_tree.specs.Spelling.{is_lettered}
use Rattle.c_tree.specs.Text.{field_type, alias_count, is_instance_kind, is_parameter_kind, is_opvar_kind, count_kinds}
use Rattle.c_tree.specs.Words.{array_length}

abbrev pub at_0 : {T : Type 0} → T → At T
at_0 value = record { at = 0; value = value }

-- the field of a name
abbrev pub field_of : List ℕ → CField
field_of name =
    if is_lettered name (codes "p") then Param (number_of (drop 1 name))
    else (if is_lettered name (codes "g") then Given (number_of (drop 1 name))
    else (if is_lettered name (codes "r") then Resist (number_of (drop 1 name))
    else (if is_lettered name (codes "q") then React (number_of (drop 1 name))
    else (if is_lettered name (codes "er") then EntryResist (number_of (drop 2 name))
    else (if is_lettered name (codes "eq") then EntryReact (number_of (drop 2 name))
    else (if is_lettered name (codes "o") then OpVar (number_of (drop 1 name))
    else (if is_lettered name (codes "h") then Stored (number_of (drop 1 name)) else Temperature)))))))

abbrev pub raw_field : FieldRow → RawField
raw_field field = record { ty = field_type field.integer; field = at_0 (field_of field.name) }

abbrev pub raw_right : CRight → RawRight
raw_right (right.Same a) = same (at_0 a)
raw_right (right.Negated a) = negated (at_0 a)
raw_right (right.Contrary a) = contrary (at_0 a)
raw_right (right.ToReal a) = to_real (at_0 a)
raw_right (right.ToInteger a) = to_integer (at_0 a)
raw_right (right.Call f args) = call f (map at_0 args)
raw_right (right.Binary a op b) = binary (at_0 a) op (at_0 b)

abbrev pub raw_simple : CSimple → RawSimple
raw_simple (Constant ty i side) = constant ty (at_0 i) (at_0 (raw_right side))
raw_simple (Join ty i) = join ty (at_0 i)
raw_simple (Head ty i first) = head ty (at_0 i) (at_0 first)
raw_simple (Assign i value) = assign (at_0 i) (at_0 value)
raw_simple (SetCell cell value) = set_cell (at_0 cell) (at_0 value)
raw_simple (SetCollapse pair value) = set_flag (at_0 pair) (at_0 value)
raw_simple (Report id) = report (at_0 id)

-- a block, and what follows it
abbrev pub raw_then : Block → RawBlock → RawBlock
raw_then blocks.done last = last
raw_then (blocks.simple s rest) last = simple (raw_simple s) (raw_then rest last)
raw_then (blocks.choice test first second rest) last =
    choice (at_0 test) (raw_then first (closed 0)) (raw_then second (closed 0)) (raw_then rest last)
raw_then (blocks.loop before test turn rest) last =
    loop (raw_then before (leave 0 (at_0 test) (raw_then turn (closed 0)))) (raw_then rest last)

abbrev pub raw_body : List CStatement → RawBlock
raw_body body = raw_then (block_of body) (closed 0)

abbrev pub raw_function : ℕ × CFunction → RawFunction
raw_function (j, f) = record {
  number = at_0 j;
  result = f.result;
  arguments = map (λ a. record { ty = CArgument.ty a; number = at_0 (CArgument.number a) }) f.arguments;
  body = raw_body f.body;
  value = at_0 f.value;
}

abbrev pub raw_flag : Option CCell → Option (At CCell)
raw_flag None = None
raw_flag (Some cell) = Some (at_0 cell)

abbrev pub raw_access : AccessRow → RawAccess
raw_access row = record { id = at_0 row.id; instance = row.instance; flag = raw_flag row.flag; cell = at_0 row.cell }

abbrev pub raw_load : CLoad → RawLoad
raw_load load =
    record { target = at_0 load.target; sign = load.sign; first = at_0 load.first; more = map at_0 load.more }

abbrev pub loads_raw : CLoads → RawLoads
loads_raw loads = record {
  residual_resist = map raw_load loads.residual_resist;
  residual_react = map raw_load loads.residual_react;
  jacobian_resist = map raw_load loads.jacobian_resist;
  jacobian_react = map raw_load loads.jacobian_react;
  jacobian_tran = map raw_load loads.jacobian_tran;
  spice_rhs_dc = map raw_load loads.spice_rhs_dc;
  spice_rhs_tran = map raw_load loads.spice_rhs_tran;
}

abbrev pub raw_node : ℕ × NodeRow → RawNode
raw_node (i, node) = record {
  name = node.name;
  units = node.units;
  residual_units = node.residual_units;
  resist = at_0 (Resist i);
  react = at_0 (React i);
  is_flow = node.is_flow;
}

abbrev pub raw_pair : PairRow → RawPair
raw_pair pair = record { first = at_0 pair.first; second = at_0 pair.second }

abbrev pub raw_entry : ℕ × EntryRow → RawEntry
raw_entry (e, entry) = record {
  pair = record { first = at_0 entry.row; second = at_0 (Some entry.col) };
  react_offset = at_0 (if entry.react then Some e else None);
  resist = entry.resist;
  react = entry.react;
}

abbrev pub raw_param : ParamRow → RawParam
raw_param p = record {
  names = p.names;
  num_alias = at_0 (alias_count p.names);
  description = p.description;
  units = p.units;
  integer = p.integer;
  kind = at_0 p.kind;
}

abbrev pub raw_module : ℕ × CModule → RawModule
raw_module (k, m) = record {
  numbers = at_0 k ∷ [];
  model_fields = map raw_field m.model_fields;
  sizes = record {
    node = at_0 (array_length (length m.nodes));
    jr = at_0 (array_length (length m.entries));
    jq = at_0 (array_length (length m.entries));
    col = at_0 (array_length (length m.collapse));
  };
  inst_fields = map raw_field m.inst_fields;
  functions = map raw_function (enumerate_from 0 m.functions);
  access = map raw_access m.access;
  setup_model = raw_body m.setup_model;
  setup_instance = raw_body m.setup_instance;
  eval = raw_body m.eval;
  loads = loads_raw m.loads;
  nodes = map raw_node (enumerate_from 0 m.nodes);
  entries = map raw_entry (enumerate_from 0 m.entries);
  collapse = map raw_pair m.collapse;
  params = map raw_param m.params;
}

abbrev pub raw_descriptor : ℕ × CModule → RawDescriptor
raw_descriptor (k, m) = record {
  numbers = at_0 k ∷ [];
  name = m.name;
  num_nodes = at_0 (length m.nodes);
  num_terminals = at_0 m.ports;
  num_entries = at_0 (length m.entries);
  num_collapsible = at_0 (length m.collapse);
  num_params = at_0 (count_kinds is_parameter_kind m.params);
  num_instance_params = at_0 (count_kinds is_instance_kind m.params);
  num_opvars = at_0 (count_kinds is_opvar_kind m.params);
}

abbrev pub raw_of : CFile → RawFile
raw_of f = record {
  modules = map raw_module (enumerate_from 0 f.modules);
  num_descriptors = at_0 (length f.modules);
  descriptors = map raw_descriptor (enumerate_from 0 f.modules);
}
