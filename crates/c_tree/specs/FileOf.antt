-- The file of a raw tree that obeys the rules of form, and the raw tree of a file.
use Rattle.std.specs.Prelude.{ℕ, Bool, true, false, List, [], ◌∷◌, map, Option, Some, None}
use Rattle.alg_laws.specs.declared.number.Ty.{Ty}
use Rattle.alg_laws.specs.declared.number.Ty.TheVariants.{Integer, Real}
use Rattle.c_tree.specs.declared.body.CAtom.{CAtom}
use Rattle.c_tree.specs.declared.body.CAtom.TheVariants as atom
use Rattle.c_tree.specs.declared.body.CRight.{CRight}
use Rattle.c_tree.specs.declared.body.CRight.TheVariants as right
use Rattle.c_tree.specs.declared.body.CSimple.{CSimple}
use Rattle.c_tree.specs.declared.body.CSimple.TheVariants.{Constant, Join, Head, Assign, SetCell, SetCollapse, Report}
use Rattle.c_tree.specs.declared.file.AccessRow.{AccessRow}
use Rattle.c_tree.specs.declared.file.CFile.{CFile}
use Rattle.c_tree.specs.declared.file.CFunction.{CFunction}
use Rattle.c_tree.specs.declared.file.CModule.{CModule}
use Rattle.c_tree.specs.declared.load.CLoad.{CLoad}
use Rattle.c_tree.specs.declared.load.CLoads.{CLoads}
use Rattle.c_tree.specs.declared.table.EntryRow.{EntryRow}
use Rattle.c_tree.specs.declared.table.FieldRow.{FieldRow}
use Rattle.c_tree.specs.declared.table.NodeRow.{NodeRow}
use Rattle.c_tree.specs.declared.table.PairRow.{PairRow}
use Rattle.c_tree.specs.declared.table.ParamRow.{ParamRow}
use Rattle.c_tree.specs.Blocks as blocks
use Rattle.c_tree.specs.Blocks.{Block, flat_of}
use Rattle.c_tree.specs.declared.body.CCell.{CCell}
use Rattle.c_tree.specs.declared.body.CStatement.{CStatement}
use Rattle.c_tree.specs.Raw.{At, RawRight, same, negated, contrary, to_real, to_integer, call, binary, RawSimple, constant, join, head, assign, set_cell, set_flag, report, RawBlock, closed, simple, leave, choice, loop, RawField, RawFunction, RawAccess, RawLoad, RawLoads, RawNode, RawPair, RawEntry, RawParam, RawModule, RawDescriptor, RawFile}
use Rattle.c_tree.specs.Text.{field_word}

abbrev pub right_of : RawRight → CRight
right_of (same a) = right.Same a.value
right_of (negated a) = right.Negated a.value
right_of (contrary a) = right.Contrary a.value
right_of (to_real a) = right.ToReal a.value
right_of (to_integer a) = right.ToInteger a.value
right_of (call f args) = right.Call f (map (λ a. a.value) args)
right_of (binary a op b) = right.Binary a.value op b.value

abbrev pub simple_of : RawSimple → CSimple
simple_of (constant ty i side) = Constant ty i.value (right_of side.value)
simple_of (join ty i) = Join ty i.value
simple_of (head ty i first) = Head ty i.value first.value
simple_of (assign i value) = Assign i.value value.value
simple_of (set_cell cell value) = SetCell cell.value value.value
simple_of (set_flag pair value) = SetCollapse pair.value value.value
simple_of (report id) = Report id.value

-- The test without which a loop ends: that of the first `break` in its block. The rules of form ask for one, and allow no other.
abbrev pub test_of : RawBlock → CAtom
test_of (closed at) = atom.Integer 0
test_of (simple s rest) = test_of rest
test_of (leave at a rest) = a.value
test_of (choice a x y rest) = test_of rest
test_of (loop x rest) = test_of rest

abbrev mutual
  -- the statements of a block
  pub block_in : RawBlock → Block
  block_in (closed at) = blocks.done
  block_in (simple s rest) = blocks.simple (simple_of s) (block_in rest)
  block_in (leave at a rest) = block_in rest
  block_in (choice a x y rest) = blocks.choice a.value (block_in x) (block_in y) (block_in rest)
  block_in (loop x rest) = blocks.loop (before_test x) (test_of x) (behind_test x) (block_in rest)

  -- those before the first `break`
  pub before_test : RawBlock → Block
  before_test (closed at) = blocks.done
  before_test (simple s rest) = blocks.simple (simple_of s) (before_test rest)
  before_test (leave at a rest) = blocks.done
  before_test (choice a x y rest) = blocks.choice a.value (block_in x) (block_in y) (before_test rest)
  before_test (loop x rest) = blocks.loop (before_test x) (test_of x) (behind_test x) (before_test rest)

  -- those behind it
  pub behind_test : RawBlock → Block
  behind_test (closed at) = blocks.done
  behind_test (simple s rest) = behind_test rest
  behind_test (leave at a rest) = block_in rest
  behind_test (choice a x y rest) = behind_test rest
  behind_test (loop x rest) = behind_test rest

abbrev pub body_of : RawBlock → List CStatement
body_of block = flat_of (block_in block)

abbrev pub is_integer : Ty → Bool
is_integer Integer = true
is_integer Real = false

abbrev pub field_row : RawField → FieldRow
field_row field = record { name = field_word field.field.value; integer = is_integer field.ty }

abbrev pub function_of : RawFunction → CFunction
function_of f = record {
  result = f.result;
  arguments = map (λ argument. record { ty = argument.ty; number = argument.number.value }) f.arguments;
  body = body_of f.body;
  value = f.value.value;
}

abbrev pub flag_of : Option (At CCell) → Option CCell
flag_of None = None
flag_of (Some cell) = Some cell.value

abbrev pub access_row : RawAccess → AccessRow
access_row row = record { id = row.id.value; instance = row.instance; flag = flag_of row.flag; cell = row.cell.value }

abbrev pub load_of : RawLoad → CLoad
load_of load = record {
  target = load.target.value;
  sign = load.sign;
  first = load.first.value;
  more = map (λ factor. factor.value) load.more;
}

abbrev pub loads_of_raw : RawLoads → CLoads
loads_of_raw loads = record {
  residual_resist = map load_of loads.residual_resist;
  residual_react = map load_of loads.residual_react;
  jacobian_resist = map load_of loads.jacobian_resist;
  jacobian_react = map load_of loads.jacobian_react;
  jacobian_tran = map load_of loads.jacobian_tran;
  spice_rhs_dc = map load_of loads.spice_rhs_dc;
  spice_rhs_tran = map load_of loads.spice_rhs_tran;
}

abbrev pub node_row : RawNode → NodeRow
node_row node =
    record { name = node.name; units = node.units; residual_units = node.residual_units; is_flow = node.is_flow }

-- of the pair of an entry both are numbers
abbrev pub column_of : Option ℕ → ℕ
column_of None = 0
column_of (Some column) = column

abbrev pub entry_row : RawEntry → EntryRow
entry_row entry = record {
  row = entry.pair.first.value;
  col = column_of entry.pair.second.value;
  resist = entry.resist;
  react = entry.react;
}

abbrev pub pair_row : RawPair → PairRow
pair_row pair = record { first = pair.first.value; second = pair.second.value }

abbrev pub param_row : RawParam → ParamRow
param_row p =
    record { names = p.names; description = p.description; units = p.units; integer = p.integer; kind = p.kind.value }

-- a module with its name and the number of its ports
abbrev pub module_of : List ℕ → ℕ → RawModule → CModule
module_of name ports m = record {
  name = name;
  nodes = map node_row m.nodes;
  ports = ports;
  entries = map entry_row m.entries;
  collapse = map pair_row m.collapse;
  params = map param_row m.params;
  model_fields = map field_row m.model_fields;
  inst_fields = map field_row m.inst_fields;
  functions = map function_of m.functions;
  access = map access_row m.access;
  setup_model = body_of m.setup_model;
  setup_instance = body_of m.setup_instance;
  eval = body_of m.eval;
  loads = loads_of_raw m.loads;
}

-- the modules with their descriptors; the rules of form ask for as many of both
abbrev pub modules_of : List RawModule → List RawDescriptor → List CModule
modules_of [] descriptors = []
modules_of (m ∷ rest) [] = module_of [] 0 m ∷ modules_of rest []
modules_of (m ∷ rest) (d ∷ descriptors) = module_of d.name d.num_terminals.value m ∷ modules_of rest descriptors

abbrev pub file_of : RawFile → CFile
file_of raw = record { modules = modules_of raw.modules raw.descriptors }
