-- What load functions, tables and descriptors stand for.
use Rattle.std.specs.Prelude.{ℕ, ◌+◌, ◌-◌, Bool, ◌||◌, if◌then◌else◌, List, ◌∷◌, map, Option, Some, None}
use Rattle.c_tree.specs.declared.load.LoadFactor.{LoadFactor}
use Rattle.c_tree.specs.declared.load.LoadFactor.TheVariants as factor
use Rattle.c_tree.specs.declared.load.LoadSign.{LoadSign}
use Rattle.c_tree.specs.declared.load.LoadSign.TheVariants.{Put, Add, Subtract}
use Rattle.c_tree.specs.declared.load.LoadTarget.{LoadTarget}
use Rattle.c_tree.specs.declared.load.LoadTarget.TheVariants as target
use Rattle.c_tree.specs.declared.table.ParamKind.{ParamKind}
use Rattle.c_tree.specs.declared.table.ParamKind.TheVariants.{Inst, Model, Opvar}
use Rattle.c_tree.specs.Raw.{At, RawLoad, RawLoads, RawNode, RawPair, RawEntry, RawParam, RawDescriptor}
use Rattle.c_raw_build.specs.Placed.{Placed, end, is_of, part, elements}
use Rattle.c_raw_build.specs.RowNumbers.{load_row, node_target_row, resist_target_row, put_row, add_row, alpha_row, cell_factor_row, more_factors_row, node_row_row, entry_row_row, second_node_row, react_pointer_row, resist_parts_row, react_part_row, and_react_row, pair_row_row, param_row_row, more_strings_row, integer_param_row, instance_param_row, model_param_row, descriptor_row}
use Rattle.c_raw_build.specs.RawAtoms.{field, named_field, number, number_of_tree, node_number}
use Rattle.c_raw_build.specs.Words.{CText, string_at, module_numbers}

-- MatrixTarget: `jr` or `jq`
unfoldable pub matrix_target : CText → Placed → LoadTarget
matrix_target text p =
    if is_of resist_target_row p then target.EntryResist (number_of_tree text (part 0 p)) else target.EntryReact (number_of_tree text (part 0 p))

-- LoadTarget: the vector's place for an unknown, or the matrix's for an entry
unfoldable pub target_of : CText → Placed → LoadTarget
target_of text p = if is_of node_target_row p then target.Node (node_number text (part 0 p)) else matrix_target text (part 0 p)

-- LoadSign
unfoldable pub sign_of : Placed → LoadSign
sign_of p = if is_of put_row p then Put else (if is_of add_row p then Add else Subtract)

-- Factor: `alpha`, a cell of the instance, or a part of the solution
unfoldable pub factor_of : CText → Placed → LoadFactor
factor_of text p =
    if is_of alpha_row p then factor.Alpha
    else (if is_of cell_factor_row p then factor.Cell (field text (part 0 p)) else factor.Solution (node_number text (part 0 p)))

-- Factor, with the index of its first token
abbrev pub placed_factor : CText → Placed → At LoadFactor
placed_factor text p = record { at = p.at; value = factor_of text p }

-- MoreFactors
unfoldable pub more_factors : CText → Placed → List (At LoadFactor)
more_factors text p = map (λ q. placed_factor text (part 0 q)) (elements more_factors_row p)

-- LoadStatements: a statement
unfoldable pub load : CText → Placed → RawLoad
load text p = record {
  target = record { at = p.at; value = target_of text (part 0 p) };
  sign = sign_of (part 1 p);
  first = placed_factor text (part 2 p);
  more = more_factors text (part 3 p);
}

-- LoadStatements
unfoldable pub load_statements : CText → Placed → List RawLoad
load_statements text p = map (load text) (elements load_row p)

-- ResidualResist and the other load functions: statements behind the instance's cast
unfoldable pub load_function : CText → Placed → List RawLoad
load_function text p = load_statements text (part 1 p)

-- Loads
unfoldable pub loads : CText → Placed → RawLoads
loads text p = record {
  residual_resist = load_function text (part 0 p);
  residual_react = load_function text (part 1 p);
  jacobian_resist = load_function text (part 2 p);
  jacobian_react = load_function text (part 3 p);
  jacobian_tran = load_function text (part 4 p);
  spice_rhs_dc = load_function text (part 5 p);
  spice_rhs_tran = load_function text (part 6 p);
}

-- NodeRow: three strings, the offsets of two fields, and an integer
unfoldable pub node_row : CText → Placed → RawNode
node_row text p = record {
  name = string_at text (p.at + 2);
  units = string_at text (p.at + 6);
  residual_units = string_at text (p.at + 10);
  resist = named_field text (part 0 p);
  react = named_field text (part 1 p);
  is_flow = number_of_tree text (part 2 p);
}

-- NodeRows
unfoldable pub node_rows : CText → Placed → List RawNode
node_rows text p = map (node_row text) (elements node_row_row p)

-- SecondNode: a number, or `UINT32_MAX`
unfoldable pub second_node : CText → Placed → Option ℕ
second_node text p = if is_of second_node_row p then Some (number_of_tree text (part 0 p)) else None

-- Pair
unfoldable pub pair : CText → Placed → RawPair
pair text p = record {
  first = number text (part 0 p);
  second = record { at = (part 1 p).at; value = second_node text (part 1 p) };
}

-- ReactPointer: the number of an element of `jq`, or `UINT32_MAX`
unfoldable pub react_pointer : CText → Placed → Option ℕ
react_pointer text p = if is_of react_pointer_row p then Some (number_of_tree text (part 0 p)) else None

-- EntryParts
unfoldable pub has_resist : Placed → Bool
has_resist p = is_of resist_parts_row p

unfoldable pub has_react : Placed → Bool
has_react p = is_of react_part_row p || is_of and_react_row (part 0 p)

-- EntryRow
unfoldable pub entry_row : CText → Placed → RawEntry
entry_row text p = record {
  pair = pair text (part 0 p);
  react_offset = record { at = (part 1 p).at; value = react_pointer text (part 1 p) };
  resist = has_resist (part 2 p);
  react = has_react (part 2 p);
}

-- EntryRows
unfoldable pub entry_rows : CText → Placed → List RawEntry
entry_rows text p = map (entry_row text) (elements entry_row_row p)

-- PairRows
unfoldable pub pair_rows : CText → Placed → List RawPair
pair_rows text p = map (λ q. pair text (part 0 q)) (elements pair_row_row p)

-- MoreStrings
unfoldable pub more_strings : CText → Placed → List (List ℕ)
more_strings text p = map (λ q. string_at text (q.at + 1)) (elements more_strings_row p)

-- ParamType
unfoldable pub is_integer_param : Placed → Bool
is_integer_param p = is_of integer_param_row p

-- ParamKind
unfoldable pub param_kind : Placed → ParamKind
param_kind p = if is_of instance_param_row p then Inst else (if is_of model_param_row p then Model else Opvar)

-- ParamRow: the first name stands behind eight tokens, and the description and the units behind the number of aliases
unfoldable pub param_row : CText → Placed → RawParam
param_row text p = record {
  names = string_at text (p.at + 9) ∷ more_strings text (part 0 p);
  num_alias = number text (part 1 p);
  description = string_at text (end (part 1 p) + 3);
  units = string_at text (end (part 1 p) + 7);
  integer = is_integer_param (part 2 p);
  kind = record { at = (part 3 p).at; value = param_kind (part 3 p) };
}

-- ParamRows
unfoldable pub param_rows : CText → Placed → List RawParam
param_rows text p = map (param_row text) (elements param_row_row p)

-- Descriptor: its tokens up to the descriptors behind it
unfoldable pub descriptor : CText → Placed → RawDescriptor
descriptor text p = record {
  numbers = module_numbers text p.at ((part 7 p).at - p.at);
  name = string_at text (p.at + 2);
  num_nodes = number text (part 0 p);
  num_terminals = number text (part 1 p);
  num_entries = number text (part 2 p);
  num_collapsible = number text (part 3 p);
  num_params = number text (part 4 p);
  num_instance_params = number text (part 5 p);
  num_opvars = number text (part 6 p);
}

-- Descriptors
unfoldable pub descriptors : CText → Placed → List RawDescriptor
descriptors text p = map (descriptor text) (elements descriptor_row p)
