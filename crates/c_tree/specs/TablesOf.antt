-- The tables of a C file, read from its tree.
use Rattle.std.specs.Prelude.{ℕ, List, [], ◌∷◌, map}
use Rattle.va_base.specs.Tables.{Tables, NodeLine, EntryLine, PairLine, ParameterLine, ParameterKind, instance, model, operating_point}
use Rattle.c_tree.specs.declared.file.CFile.{CFile}
use Rattle.c_tree.specs.declared.file.CModule.{CModule}
use Rattle.c_tree.specs.declared.table.EntryRow.{EntryRow}
use Rattle.c_tree.specs.declared.table.NodeRow.{NodeRow}
use Rattle.c_tree.specs.declared.table.PairRow.{PairRow}
use Rattle.c_tree.specs.declared.table.ParamKind.{ParamKind}
use Rattle.c_tree.specs.declared.table.ParamKind.TheVariants.{Inst, Model as OfModel, Opvar}
use Rattle.c_tree.specs.declared.table.ParamRow.{ParamRow}

abbrev pub node_line : NodeRow → NodeLine
node_line node =
    record { name = node.name; units = node.units; residual_units = node.residual_units; is_flow = node.is_flow }

abbrev pub entry_line : EntryRow → EntryLine
entry_line entry = record { row = entry.row; column = entry.col; resistive = entry.resist; reactive = entry.react }

abbrev pub pair_line : PairRow → PairLine
pair_line pair = record { first = pair.first; second = pair.second }

abbrev pub kind_of : ParamKind → ParameterKind
kind_of Inst = instance
kind_of OfModel = model
kind_of Opvar = operating_point

-- its own name; the others are aliases
abbrev pub own_name : List (List ℕ) → List ℕ
own_name [] = []
own_name (name ∷ aliases) = name

abbrev pub aliases_of : List (List ℕ) → List (List ℕ)
aliases_of [] = []
aliases_of (name ∷ aliases) = aliases

abbrev pub parameter_line : ParamRow → ParameterLine
parameter_line p = record {
  name = own_name p.names;
  aliases = aliases_of p.names;
  description = p.description;
  units = p.units;
  is_integer = p.integer;
  kind = kind_of p.kind;
}

-- the tables of a module
abbrev pub module_tables : CModule → Tables
module_tables m = record {
  name = m.name;
  ports = m.ports;
  nodes = map node_line m.nodes;
  entries = map entry_line m.entries;
  pairs = map pair_line m.collapse;
  parameters = map parameter_line m.params;
}

-- the tables of a file, module by module
abbrev pub tables_of : CFile → List Tables
tables_of f = map module_tables f.modules
