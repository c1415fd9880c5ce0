-- What structs, functions, modules and files stand for.
use Rattle.std.specs.Prelude.{ℕ, ◌+◌, List, map, Option, Some, None, if◌then◌else◌}
use Rattle.c_tree.specs.declared.body.CCell.{CCell}
use Rattle.c_tree.specs.Raw.{At, RawBlock, RawField, RawArgument, RawFunction, RawAccess, RawSizes, RawModule, RawFile}
use Rattle.c_raw_build.specs.Placed.{Placed, width, end, is_of, part, elements, elements_of_two, elements_before}
use Rattle.c_raw_build.specs.RowNumbers.{fields_row, function_row, access_row as access_function_row, arguments_row, more_arguments_row, access_rows_row, instance_test_row, flag_setting_row, modules_row}
use Rattle.c_raw_build.specs.RawAtoms.{ty_of, number, placed_atom, placed_cell}
use Rattle.c_raw_build.specs.RawBodies.{body_block}
use Rattle.c_raw_build.specs.RawTables.{loads, node_rows, entry_rows, pair_rows, param_rows, descriptors}
use Rattle.c_raw_build.specs.Words.{CText, numbered_at, function_at, field_at, module_numbers}

-- Fields: a field stands behind its type
unfoldable pub raw_field : CText → Placed → RawField
raw_field text p =
    record { ty = ty_of (part 0 p); field = record { at = end (part 0 p); value = field_at text (end (part 0 p)) } }

-- Fields
unfoldable pub fields : CText → Placed → List RawField
fields text p = map (raw_field text) (elements fields_row p)

-- Arguments, MoreArguments: an argument stands behind its type
unfoldable pub argument : CText → Placed → RawArgument
argument text p = record { ty = ty_of (part 0 p); number = numbered_at text (end (part 0 p)) }

-- Arguments
unfoldable pub arguments : CText → Placed → List RawArgument
arguments text p = map (argument text) (elements_of_two arguments_row more_arguments_row p)

-- Statements whose closing brace stands so many tokens behind them
abbrev pub body : CText → ℕ → Placed → RawBlock
body text behind p = body_block text (end p + behind) p

-- FunctionOrAccess: a function
unfoldable pub function : CText → Placed → RawFunction
function text p = record {
  number = record { at = end (part 0 p); value = function_at text (end (part 0 p)) };
  result = ty_of (part 0 p);
  arguments = arguments text (part 1 p);
  body = body text (2 + width (part 3 p).tree) (part 2 p);
  value = placed_atom text (part 3 p);
}

-- FlagSetting
unfoldable pub flag : CText → Placed → Option (At CCell)
flag text p = if is_of flag_setting_row p then Some (placed_cell text (part 0 p)) else None

-- AccessRows: a row
unfoldable pub access_row : CText → Placed → RawAccess
access_row text p = record {
  id = number text (part 0 p);
  instance = is_of instance_test_row (part 1 p);
  flag = flag text (part 2 p);
  cell = placed_cell text (part 3 p);
}

-- Functions, and the access function behind them
unfoldable pub functions : CText → Placed → List RawFunction
functions text p = map (function text) (elements_before access_function_row function_row p)

unfoldable pub access : CText → Placed → List RawAccess
access text p = map (access_row text) (elements access_rows_row p)

-- Structs: the fields of the model, four sizes, and the fields of the instance
unfoldable pub sizes : CText → Placed → RawSizes
sizes text p = record {
  node = number text (part 1 p);
  jr = number text (part 2 p);
  jq = number text (part 3 p);
  col = number text (part 4 p);
}

-- SetupModel
unfoldable pub setup_model : CText → Placed → RawBlock
setup_model text p = body text 0 (part 2 p)

-- SetupInstance
unfoldable pub setup_instance : CText → Placed → RawBlock
setup_instance text p = body text 0 (part 3 p)

-- Eval: `return 0u ;` stands before its closing brace
unfoldable pub eval : CText → Placed → RawBlock
eval text p = body text 3 (part 2 p)

-- Module: structs, functions, the set-up of the model and of an instance, the evaluation, loads and tables
unfoldable pub raw_module : CText → Placed → RawModule
raw_module text p = record {
  numbers = module_numbers text p.at (width p.tree);
  model_fields = fields text (part 0 (part 0 p));
  sizes = sizes text (part 0 p);
  inst_fields = fields text (part 5 (part 0 p));
  functions = functions text (part 1 p);
  access = access text (part 1 p);
  setup_model = setup_model text (part 2 p);
  setup_instance = setup_instance text (part 3 p);
  eval = eval text (part 4 p);
  loads = loads text (part 5 p);
  nodes = node_rows text (part 0 (part 6 p));
  entries = entry_rows text (part 1 (part 6 p));
  collapse = pair_rows text (part 2 (part 6 p));
  params = param_rows text (part 3 (part 6 p));
}

-- Modules
unfoldable pub modules : CText → Placed → List RawModule
modules text p = map (λ q. raw_module text (part 0 q)) (elements modules_row p)

-- Exports: the number of descriptors
abbrev pub descriptor_count : CText → Placed → At ℕ
descriptor_count text p = number text (part 0 p)

-- File: the modules, and the number of descriptors and the descriptors in Exports
unfoldable pub file : CText → Placed → RawFile
file text p = record {
  modules = modules text (part 1 p);
  num_descriptors = descriptor_count text (part 2 p);
  descriptors = descriptors text (part 1 (part 2 p));
}
